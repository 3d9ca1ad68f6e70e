-- The colours of the lines that came first stand in the lines.
use Rattle.std.proofs.Common.{◌≡◌}
use Rattle.lines.specs.Lines.{ends}
use Rattle.chain.specs.Colourings.{Copied}
use Rattle.chain.proofs.colouring.Colouring.write.Given as goal

abbrev pub invariant-loop-k : goal.invariant-loop-k
invariant-loop-k l = record { same : ends l.lines ≡ ends l.initial.lines; copied : Copied l.self l.k l.lines }
