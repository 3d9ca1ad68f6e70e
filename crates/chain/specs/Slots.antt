-- Which line has which colour at an end.
use Rattle.std.specs.Prelude.{◌≡◌, ℕ, cond, ◌≢◌, Some, None, Option, slice_index}
use Rattle.chain.specs.declared.slots.Slots.{Slots}
use Rattle.chain.specs.Palettes.{uses}

-- the line that has the colour a; the slots tell it where the palette has a in use, and nothing elsewhere
abbrev pub line_in : Slots → ℕ → Option ℕ
line_in t a = cond (uses t.palette.free a) (Some (slice_index t.lines a)) None

-- the line o has the colour a now, or no line has it, and the other colours are with the lines that had them
pub record Refilled (t u : Slots) (a : ℕ) (o : Option ℕ) : Type 0 where
  pub new : line_in u a ≡ o
  pub old : (b : ℕ) → b ≢ a → line_in u b ≡ line_in t b
