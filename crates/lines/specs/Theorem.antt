-- How many colours suffice for lines, whatever arranges them.
use Rattle.std.specs.Prelude.{ℕ, ◌↔◌, List}
use Rattle.lines.specs.Lines.{DegreesWithin, Proper}

-- lines with these ends have a proper edge colouring with c colours
abbrev pub Colourable : ℕ → List (ℕ × ℕ) → Type 0
Colourable c ps = (cs : List ℕ) × Proper c ps cs

-- König's theorem: c colours suffice exactly where no end stands in more than c lines, for any number of lines and any ends
abbrev pub ColoursSuffice : Type 0
ColoursSuffice = (c : ℕ) (ps : List (ℕ × ℕ)) → Colourable c ps ↔ DegreesWithin c ps
