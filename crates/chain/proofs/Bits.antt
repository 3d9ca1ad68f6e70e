-- Which colours a palette has in use after one of its bits changes, and the lowest that it has free.
use Rattle.std.proofs.Common.{◌≡◌, ℕ, ◌*◌, ◌%◌, ◌^◌, ◌<◌, ◌≤◌, Bool, true, false, not, ◌&&◌, ◌||◌, eqb, min, w64, Some, None, sym, refl, ap, pow_mono, ◌∙◌, ⊎_elim, arith}
use Rattle.std.specs.Int.{bit_at, bit_not}
use lib.Bits.{bit_and, bit_or}
use lib.Count.{count_trailing_zeros}
use Rattle.std.specs.Int.Count.{trailing_of_zero}
use Rattle.std.specs.Int.Bits.{and_lt}
use Rattle.std.proofs.Math.Pow.{ones_sub-lt}
use Rattle.std.proofs.lemmas.Bool.Decides.{nat_tests}
use Rattle.std.proofs.lemmas.Nat.Bits.{bit_at_and, bit_at_ones, bit_at-zero, bit_at-trailing_zeros, bit_at_set_same, bit_at_set_other, bit_at_clear_same, bit_at_clear_other}
use Rattle.std.proofs.lemmas.Bool.{cases_eq, cases_lt, eq-eqb, ne_eqb}
use native.Mathlib.Nat.{div-eq_of_lt}
use Rattle.chain.specs.declared.colour.Colour.{Colour}
use Rattle.chain.specs.Palettes.{uses, Lowest}
use Rattle.chain.proofs.Paths.{none_some}

-- a word has no bits above the 64th
uses_above : (n a : ℕ) → n < 2 ^ 64 → 64 ≤ a → uses n a ≡ true
uses_above n a l la = ap (λ x. eqb (x % 2) 0) (div-eq_of_lt (let h : n < 2 ^ a = omega (arith, pow_mono {i = 64} la) in h))

pub uses_insert : (n k a : ℕ) → n < 2 ^ 64 → k < 64 → uses (bit_and n (bit_not w64 (1 * 2 ^ k % 2 ^ 64))) a ≡ (eqb a k || uses n a)
uses_insert n k a ln lk =
    ⊎_elim
    (λ (z : a ≡ k). ap (λ i. uses (bit_and n (bit_not w64 (1 * 2 ^ k % 2 ^ 64))) i) z ∙ ap (λ x. eqb x 0) (bit_at_clear_same w64 n k lk) ∙ sym (ap (λ (t : Bool). t || uses n a) (eq-eqb a k z)))
    (λ (ne : a ≡ k → ⊥).
    ⊎_elim
    (λ (la : a < 64). ap (λ x. eqb x 0) (bit_at_clear_other w64 n k lk a la ne))
    (λ (ha : 64 ≤ a). uses_above (bit_and n (bit_not w64 (1 * 2 ^ k % 2 ^ 64))) a (and_lt 64 n (bit_not w64 (1 * 2 ^ k % 2 ^ 64)) ln (ones_sub-lt 64 (1 * 2 ^ k % 2 ^ 64))) ha ∙ sym (uses_above n a ln ha))
    (cases_lt a 64) ∙
    sym (ap (λ (t : Bool). t || uses n a) (ne_eqb a k ne)))
    (cases_eq a k)

pub uses_remove : (n k a : ℕ) → k < 64 → uses (bit_or n (1 * 2 ^ k % 2 ^ 64)) a ≡ (not (eqb a k) && uses n a)
uses_remove n k a lk =
    ⊎_elim
    (λ (z : a ≡ k). ap (λ i. uses (bit_or n (1 * 2 ^ k % 2 ^ 64)) i) z ∙ ap (λ x. eqb x 0) (bit_at_set_same w64 n k lk) ∙ sym (ap (λ (t : Bool). not t && uses n a) (eq-eqb a k z)))
    (λ (ne : a ≡ k → ⊥). ap (λ x. eqb x 0) (bit_at_set_other w64 n k lk a ne) ∙ sym (ap (λ (t : Bool). not t && uses n a) (ne_eqb a k ne)))
    (cases_eq a k)

either_zero : (x y : ℕ) → eqb (min x y) 0 ≡ (eqb x 0 || eqb y 0)
either_zero x y = grind (arith, nat_tests)

pub uses_union : (m n a : ℕ) → uses (bit_and m n) a ≡ (uses m a || uses n a)
uses_union m n a = ap (λ x. eqb x 0) (bit_at_and m n a) ∙ either_zero (bit_at m a) (bit_at n a)

pub all_free : (a : ℕ) → a < 64 → uses 18446744073709551615 a ≡ false
all_free a l = ap (λ x. eqb x 0) (bit_at_ones 64 a l)

pub lowest_some : (n : ℕ) (r : Colour) → n < 2 ^ 64 → r.number ≡ count_trailing_zeros 64 n → Lowest n (Some r)
lowest_some n r ln e =
    let some : 0 < n = ⊎_elim (λ (z : 0 < n). z) (λ (z : n ≤ 0). absurd (omega (arith, ap (count_trailing_zeros 64) (let y : n ≡ 0 = omega arith in y), trailing_of_zero 64, e, r.low))) (cases_lt 0 n) in
    let bits = bit_at-trailing_zeros w64 n some ln in
    record {
      all = λ z. absurd (none_some (Some r) r z refl);
      free = λ q z. let same : q.number ≡ count_trailing_zeros 64 n = cc in ap (λ i. uses n i) same ∙ ap (λ x. eqb x 0) bits.1;
      below = λ q z a l. let same : q.number ≡ count_trailing_zeros 64 n = cc in ap (λ x. eqb x 0) (bits.2 a (rw same at l));
    }

pub lowest_none : (n : ℕ) → n < 2 ^ 64 → 64 ≤ count_trailing_zeros 64 n → Lowest n None
lowest_none n ln l =
    let none : n ≡ 0 = ⊎_elim (λ (z : 0 < n). absurd (omega (arith, (bit_at-trailing_zeros w64 n z ln).0))) (λ (z : n ≤ 0). omega arith) (cases_lt 0 n) in
    record {
      all = λ z a la. ap (λ x. uses x a) none ∙ ap (λ x. eqb x 0) (bit_at-zero a);
      free = λ r z. absurd (none_some None r refl z);
      below = λ r z. absurd (none_some None r refl z);
    }

pub ruleset lowest = (lowest_some, lowest_none)
