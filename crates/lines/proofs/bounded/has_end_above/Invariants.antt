-- The lines up to here are looked at.
use Rattle.std.proofs.Common.{◌≡◌, take}
use Rattle.lines.specs.Refusals.{end_above}
use Rattle.lines.proofs.bounded.has_end_above.Given as goal

abbrev pub invariant-loop-line : goal.invariant-loop-line
invariant-loop-line l = l.above ≡ end_above (take l.line-index l.lines)
