-- Which colours are in use at an end, by the bits of a word.
use Rattle.std.specs.Prelude.{◌≡◌, ℕ, ◌<◌, Bool, true, false, ◌==◌, Some, None, Option}
use Rattle.std.specs.Int.{bit_at}
use Rattle.chain.specs.declared.colour.Colour.{Colour}

-- the colour a is in use where its bit is 0
abbrev pub uses : ℕ → ℕ → Bool
uses free a = bit_at free a == 0

-- o is the lowest of the free colours, or none where all are in use
pub record Lowest (word : ℕ) (o : Option Colour) : Type 0 where
  pub all : o ≡ None → (a : ℕ) → a < 64 → uses word a ≡ true
  pub free : (r : Colour) → o ≡ Some r → uses word r.number ≡ false
  pub below : (r : Colour) → o ≡ Some r → (a : ℕ) → a < r.number → uses word a ≡ true

-- o is a free colour below c, or none where all of these are in use
pub record UnusedBelow (word c : ℕ) (o : Option Colour) : Type 0 where
  pub all : o ≡ None → (a : ℕ) → a < 64 → a < c → uses word a ≡ true
  pub free : (r : Colour) → o ≡ Some r → uses word r.number ≡ false
  pub below : (r : Colour) → o ≡ Some r → r.number < c
