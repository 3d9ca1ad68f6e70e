-- The lines that came first have colours.
use Rattle.lines.specs.Lines.{ends}
use Rattle.chain.specs.Colourings.{Consistent, Partly}
use Rattle.chain.proofs.colouring.Colouring.colour_all.Given as goal

abbrev pub invariant-loop-i : goal.invariant-loop-i
invariant-loop-i l = Consistent (ends l.task.bounded.lines.now) l.self × Partly l.task.count l.i l.self
