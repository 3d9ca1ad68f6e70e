-- The lines up to here have the colour.
use Rattle.std.proofs.Common.{◌≡◌, ℕ, ◌<◌, get_or}
use Rattle.lines.specs.Lines.{ends, colours}
use Rattle.euler.proofs.colour.fill.Given as goal

abbrev pub invariant-loop-line : goal.invariant-loop-line
invariant-loop-line l = (ends l.lines ≡ ends l.initial.lines) × ((k : ℕ) → k < l.line-index → get_or (colours l.lines) k 0 ≡ l.colour)
