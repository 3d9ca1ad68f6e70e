-- The worked examples of the cabinet kinds and those of lines, settled against the definitions.
use Rattle.std.specs.Prelude.{◌≡◌, ℕ, true, ◌⊎◌, ◌↔◌, List, [], ◌∷◌, Some, None}
use Rattle.kinds.specs.Worked.{WorkedBytes, WorkedHeaders, WorkedWalks}
use Rattle.lines.specs.declared.line.Line.{Line}
use Rattle.lines.specs.declared.line.Side.TheVariants.{Left}
use Rattle.lines.specs.Refusals.{refusal_due}
use Rattle.lines.specs.Arrangers.{Arranged}

-- two lines from left end 0 to right end 0, with the colours x and y
abbrev pub twins : ℕ → ℕ → List Line
twins x y = record { left = 0; right = 0; colour = x } ∷ record { left = 0; right = 0; colour = y } ∷ []

-- for an arranger that serves the count: two such lines are refused with one colour, by 26 at left end 0; with two colours
-- they are accepted, and then have the colours 0 and 1 in either order; no lines at all are accepted
abbrev pub WorkedLines : Type 0
WorkedLines =
    ((x y : ℕ) → refusal_due true 1 (twins x y) ≡ Some (record { number = 26; end = Some (Left, 0) })) ×
    ((x y : ℕ) → refusal_due true 2 (twins x y) ≡ None) ×
    ((x y : ℕ) (after : List Line) → Arranged 2 (twins x y) after ↔ ((after ≡ twins 0 1) ⊎ (after ≡ twins 1 0))) ×
    ((c : ℕ) → refusal_due true c [] ≡ None)

-- those of route bytes, headers and walks, and those of lines
abbrev pub Worked : Type 0
Worked = WorkedBytes × WorkedHeaders × WorkedWalks × WorkedLines
