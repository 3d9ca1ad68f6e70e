-- The single lines up to here are forgotten.
use Rattle.std.proofs.Common.{length}
use Rattle.lines.specs.Lines.{ends, end_at}
use Rattle.euler.proofs.Pairing.{Cleared}
use Rattle.euler.proofs.pairs.clear.Given as goal

abbrev pub invariant-loop-line : goal.invariant-loop-line
invariant-loop-line l = Cleared l.line-index (length l.bounded.lines.now) (end_at (ends l.bounded.lines.now) l.side) l.single
