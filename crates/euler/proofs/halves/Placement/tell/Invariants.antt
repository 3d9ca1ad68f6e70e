-- The lines up to here have the colour of their half.
use Rattle.std.proofs.Common.{◌≡◌, ℕ, ◌<◌, get_or}
use Rattle.lines.specs.Lines.{ends, colours}
use Rattle.euler.specs.Pairs.{at}
use Rattle.euler.specs.Walks.{bit}
use Rattle.euler.proofs.halves.Placement.tell.Given as goal

abbrev pub invariant-loop-k : goal.invariant-loop-k
invariant-loop-k l = (ends l.lines ≡ ends l.initial.lines) × ((j : ℕ) → j < l.k → get_or (colours l.lines) j 0 ≡ bit (at l.self.halves.now j))
