-- Lines that are dealt into two halves, coloured each for itself and put together again.
use Rattle.std.specs.Prelude.{◌≡◌, ℕ, ◌+◌, ◌<◌, ◌≤◌, Bool, cond, not, List, [], ◌∷◌, drop, ◌==◌, slice_index_or}
use Rattle.lines.specs.declared.line.Line.{Line}
use Rattle.lines.specs.declared.line.Side.{Side}
use Rattle.euler.specs.Halves.{share}

-- a line is in the first half
abbrev pub is_low : Line → Bool
is_low l = l.colour == 0

-- and in the other
abbrev pub is_high : Line → Bool
is_high l = not (l.colour == 0)

-- a line with another colour
abbrev pub recoloured : Line → ℕ → Line
recoloured l z = record l { colour = z }

-- the lines of ls in order, each with the colour of the next one of its half
abbrev pub weave : List Line → List Line → List Line → List Line
weave [] xs ys = []
weave (l ∷ ls) xs ys =
    cond (is_low l) (recoloured l (slice_index_or xs 0 l).colour ∷ weave ls (drop 1 xs) ys) (recoloured l (slice_index_or ys 0 l).colour ∷ weave ls xs (drop 1 ys))

-- the c colours from `first` on are used, and each at most once at an end
pub record Spread (first c : ℕ) (ls : List Line) : Type 0 where
  pub single : (s : Side) (v z : ℕ) → share s v z ls ≤ 1
  pub low : (s : Side) (v z : ℕ) → z < first → share s v z ls ≡ 0
  pub high : (s : Side) (v z : ℕ) → first + c ≤ z → share s v z ls ≡ 0
