-- The seats up to here are counted.
use Rattle.std.proofs.Common.{take}
use Rattle.reports.specs.Steps.{Counts, round_key}
use Rattle.reports.proofs.fullest.count_rounds.Given as goal

abbrev pub invariant-loop-seat : goal.invariant-loop-seat
invariant-loop-seat l = Counts round_key (take l.seat-index l.seats) l.counts
