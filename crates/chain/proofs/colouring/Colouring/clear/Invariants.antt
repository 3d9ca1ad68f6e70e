-- The lines that came first are gone.
use Rattle.lines.specs.Lines.{ends}
use Rattle.chain.specs.Colourings.{Cleared}
use Rattle.chain.proofs.colouring.Colouring.clear.Given as goal

abbrev pub invariant-loop-k : goal.invariant-loop-k
invariant-loop-k l = Cleared (ends l.bounded.lines.now) l.initial.self l.self l.k
