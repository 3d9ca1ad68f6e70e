-- What the counts of lines hold while an arranger makes its tests.
use Rattle.std.specs.Prelude.{◌≡◌, ℕ, ◌≤◌, cond, ◌⊎◌, List, Some, None, Option, nat_le, slice_index}
use Rattle.lines.specs.declared.line.Side.{Side}
use Rattle.lines.specs.declared.line.Side.TheVariants.{Left, Right}
use Rattle.lines.specs.declared.degrees.Crowds.{Crowds}
use Rattle.lines.specs.Lines.{degree}
use Rattle.lines.specs.Refusals.{crowded}

-- every count is zero
abbrev pub Zero : List ℕ → Type 0
Zero ns = (v : ℕ) → slice_index ns v ≡ 0

-- the count of each end is its degree
abbrev pub Counts : Side → List (ℕ × ℕ) → List ℕ → Type 0
Counts s ps ns = (v : ℕ) → slice_index ns v ≡ degree s v ps

-- an end that none of the lines has is counted as zero
abbrev pub Cleared : Side → List (ℕ × ℕ) → List ℕ → Type 0
Cleared s ps ns = (v : ℕ) → (slice_index ns v ≡ 0) ⊎ (1 ≤ degree s v ps)

-- the lower of an end and the lowest so far
abbrev pub lower_of : Option ℕ → ℕ → Option ℕ
lower_of (Some w) v = cond (nat_le w v) (Some w) (Some v)
lower_of None v = Some v

-- the lowest end of each side in which more than c lines stand
abbrev pub crowds : ℕ → List (ℕ × ℕ) → Crowds
crowds c ps = record { left = crowded Left c ps; right = crowded Right c ps }
