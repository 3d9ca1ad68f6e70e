-- The lines up to here come from their halves, and what is left of the halves is for the rest.
use Rattle.std.specs.Slice.Iter.{iter_rest}
use Rattle.euler.proofs.Weaving.{Gathering}
use Rattle.euler.proofs.colour.gather.Given as goal

abbrev pub invariant-loop-line : goal.invariant-loop-line
invariant-loop-line l = Gathering l.initial.lines l.fn.low l.fn.high l.lines l.line-index (iter_rest l.low) (iter_rest l.high)
