-- The counts of colours that are served, and what a split into two halves is.
use Rattle.std.specs.Prelude.{◌≡◌, ℕ, ◌+◌, ◌<◌, ◌≤◌, Bool, ◌&&◌, List, length, Ok, Err, count_by, Option, Result, ◌==◌, count_ones, nat_le, slice_index}
use Rattle.lines.specs.declared.line.Line.{Line}
use Rattle.lines.specs.declared.line.Side.{Side}
use Rattle.lines.specs.declared.refusal.ArrangeRefusal.{ArrangeRefusal}
use Rattle.lines.specs.Lines.{end_of, ends, colours}
use Rattle.lines.specs.Refusals.{Refusal, bounds_refusal}

-- the counts of colours that are served: those from 1 to 64 with one bit set
abbrev pub one_bit_to_64 : ℕ → Bool
one_bit_to_64 c = count_ones c == 1 && nat_le c 64

-- a line has the end v on side s, and the colour z
abbrev pub stands : Side → ℕ → ℕ → Line → Bool
stands s v z l = end_of s l == v && l.colour == z

-- the share of the colour z in the lines at an end
abbrev pub share : Side → ℕ → ℕ → List Line → ℕ
share s v z ls = count_by (stands s v z) ls

-- the same lines in two halves, the colours 0 and 1, whose shares at each end differ by at most one
pub record Halved (before after : List Line) : Type 0 where
  pub same : ends after ≡ ends before
  pub two : (k : ℕ) → k < length after → slice_index (colours after) k < 2
  pub even : (s : Side) (v : ℕ) → (share s v 0 after ≤ share s v 1 after + 1) × (share s v 1 after ≤ share s v 0 after + 1)

-- the refusal of a split that is due, or none: 24 over 1,024 lines, then 25 an end above 511
abbrev pub split_refusal : List Line → Option Refusal
split_refusal ls = bounds_refusal ls

-- accepted lines are halved, refused lines unchanged
abbrev pub Splits : {A : Type 0} → Result A ArrangeRefusal → List Line → List Line → Type 0
Splits (Ok _) before after = Halved before after
Splits (Err _) before after = after ≡ before
