-- What `{:02X}` writes of a byte, and `{:02}` and `{:05}` of a number.
use Rattle.std.proofs.Common.{◌≡◌, ℕ, ◌+◌, ◌-◌, ◌/◌, ◌%◌, ◌^◌, ◌<◌, ◌≤◌, true, false, List, [], ◌∷◌, ◌++◌, length, ap, ◌∙◌, ⊎_elim, arith}
use mathlib.Core.List.{append_assoc, append-nil}
use Rattle.std.proofs.Math.Nat.{sub-zero}
use Rattle.std.proofs.Math.ListN.{replicate, length-append}
use Rattle.std.specs.Fmt.{digits, decimal, digit_glyph, padded_integral, format_spec, char_count}
use Rattle.std.proofs.lemmas.Bool.{cases_lt}
use Rattle.std.proofs.lemmas.List.{replicate_more}
use Rattle.std.proofs.lemmas.Fmt.{hex_byte, decimal_digit, decimal_step, decimal_nonempty}
use Rattle.crossbar.specs.Text.{hex_digit, hex, two_digits, five_digits}

-- a numeral, filled up by zeros to a width
abbrev pub padded : ℕ → List ℕ → List ℕ
padded width numeral = padded_integral (format_spec 32 0 4 width (2 ^ 64 - 1)) false [] numeral

pub hex_padded : (b : ℕ) → b < 256 → padded 2 (digits 16 true b) ≡ hex b
hex_padded b h =
    let high : b / 16 ≡ b / 16 % 16 = omega arith in
    hex_byte true b h ∙ ap (λ d. digit_glyph true d ∷ hex_digit b ∷ []) high

-- the zeros stand before it
by_zeros : (w : ℕ) (numeral : List ℕ) → padded w numeral ≡ replicate (w - length numeral) 48 ++ numeral
unfolding padded_integral char_count
by_zeros w numeral = simp (append-nil, sub-zero)

-- the last digit takes one of the width, and the digits before it are filled up to the rest
module _ (w v : ℕ) (h : v < 2 ^ 64) where
  one : v < 10 → padded (w + 2) (decimal v) ≡ padded (w + 1) (decimal (v / 10)) ++ decimal (v % 10)
  one l =
      let none : v / 10 ≡ 0 = omega arith in
      let same : v % 10 ≡ v = omega arith in
      let whole : w + 2 - 1 ≡ w + 1 = omega arith in
      let front : w + 1 - 1 ≡ w = omega arith in
      rw (none, same, decimal_digit v l, decimal_digit 0 (omega arith), by_zeros (w + 2), by_zeros (w + 1), whole, front, replicate_more)

  more : 10 ≤ v → padded (w + 2) (decimal v) ≡ padded (w + 1) (decimal (v / 10)) ++ decimal (v % 10)
  more l =
      let less : w + 2 - length (decimal (v / 10) ++ ((48 + v % 10) ∷ [])) ≡ w + 1 - length (decimal (v / 10)) = omega (arith, length-append (decimal (v / 10)) ((48 + v % 10) ∷ [])) in
      rw (decimal_digit (v % 10) (omega arith), decimal_step v l h, by_zeros (w + 2), by_zeros (w + 1), less, append_assoc)

  last_apart : padded (w + 2) (decimal v) ≡ padded (w + 1) (decimal (v / 10)) ++ decimal (v % 10)
  last_apart = ⊎_elim one more (cases_lt v 10)

pub decimal_padded : (v : ℕ) → v < 256 → padded 2 (decimal v) ≡ two_digits v
decimal_padded v h =
    let none : 1 - length (decimal (v / 10)) ≡ 0 = omega (arith, decimal_nonempty (v / 10) (omega arith)) in
    last_apart 0 v (omega arith) ∙ rw (by_zeros 1, none)

pub five_padded : (v : ℕ) → v < 65536 → padded 5 (decimal v) ≡ five_digits v
five_padded v h =
    let hundreds : v / 10 / 10 ≡ v / 100 = omega arith in
    let thousands : v / 100 / 10 ≡ v / 1000 = omega arith in
    rw (last_apart 3 v (omega arith), last_apart 2 (v / 10) (omega arith), hundreds, last_apart 1 (v / 100) (omega arith), thousands, decimal_padded (v / 1000) (omega arith)) (simp append_assoc)
