-- The best of the records up to here.
use Rattle.std.proofs.Common.{◌+◌, take}
use Rattle.reports.proofs.Choosing.{Topmost}
use Rattle.reports.proofs.choice.best.Given as goal

abbrev pub invariant-loop-record : goal.invariant-loop-record
invariant-loop-record g l = Topmost g.R.Ranked.above (take (l.record-index + 1) l.records) l.best
