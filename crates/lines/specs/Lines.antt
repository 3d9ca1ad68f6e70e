-- The ends of lines, how many lines stand at an end, and what a proper edge colouring is.
use Rattle.std.specs.Prelude.{◌≡◌, ℕ, ◌<◌, ◌≤◌, ◌≢◌, List, map, length, count_by, nat_eq, slice_index, slice_index_or}
use Rattle.lines.specs.declared.line.Line.{Line}
use Rattle.lines.specs.declared.line.Side.{Side}
use Rattle.lines.specs.declared.line.Side.TheVariants.{Left, Right}

abbrev pub other : Side → Side
other Left = Right
other Right = Left

-- the end of a line on a side
abbrev pub end_of : Side → Line → ℕ
end_of Left l = l.left
end_of Right l = l.right

-- of a pair of a left end and a right end, the one on a side
abbrev pub on : Side → ℕ × ℕ → ℕ
on Left p = p.0
on Right p = p.1

-- the left end and the right end of each line, in order
abbrev pub ends : List Line → List (ℕ × ℕ)
ends ls = map (λ l. (l.left, l.right)) ls

-- the colour of each line, in order
abbrev pub colours : List Line → List ℕ
colours ls = map (λ l. l.colour) ls

-- the end on a side of the line at place k
abbrev pub end_at : List (ℕ × ℕ) → Side → ℕ → ℕ
end_at ps s k = on s (slice_index_or ps k (0, 0))

-- the degree of an end: how many lines have the end v on side s
abbrev pub degree : Side → ℕ → List (ℕ × ℕ) → ℕ
degree s v ps = count_by (λ p. nat_eq (on s p) v) ps

-- no end, left or right, stands in more than c lines
abbrev pub DegreesWithin : ℕ → List (ℕ × ℕ) → Type 0
DegreesWithin c ps = (s : Side) (v : ℕ) → degree s v ps ≤ c

-- a proper edge colouring with c colours: one colour for each line in order, each below c, and two lines that meet at an
-- end of either side have different colours
pub record Proper (c : ℕ) (ps : List (ℕ × ℕ)) (cs : List ℕ) : Type 0 where
  pub each : length cs ≡ length ps
  pub below : (k : ℕ) → k < length ps → slice_index cs k < c
  pub differ : (s : Side) (i j : ℕ) → i < length ps → j < length ps → i ≢ j → end_at ps s i ≡ end_at ps s j → slice_index cs i ≢ slice_index cs j

-- every end is one of the 512 that an arranger knows
abbrev pub Inside : List (ℕ × ℕ) → Type 0
Inside ps = (s : Side) (k : ℕ) → k < length ps → end_at ps s k < 512
