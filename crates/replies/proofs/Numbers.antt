-- A number that the library reads.
use Rattle.std.proofs.Common.{◌≡◌, ℕ, ◌+◌, ◌-◌, ◌*◌, ◌^◌, ◌<◌, ◌≤◌, Bool, true, false, cond, eqb, eq-eqb, nat_le, ◌&&◌, List, [], ◌∷◌, length, get_or, Some, None, Ok, Err, Option, Result, sym, refl, ap, ◌∙◌, ⊎_elim, arith, rules}
use Rattle.std.specs.Result.{result_ok, OkIff}
use Rattle.std.specs.Str.{all_ascii_digits}
use Rattle.std.specs.Str.Parse.{ParsesUnsigned}
use Rattle.std.proofs.lemmas.Bool.{cases_lt}
use Rattle.std.proofs.lemmas.Bool.Decides.{nat_tests}
use Rattle.std.proofs.lemmas.Str.Parse.{IsNumeralModel, numerals_by_fold, tells_all_ascii_digits, parse_plain}
use Rattle.replies.specs.Arguments.{spelled_on, at_most, number_in}

-- the value that digits go on to spell after one
abbrev value_on : ℕ → List ℕ → ℕ
value_on n bs = elim (spelled_on n bs) [ None ↦ 0 | Some v ↦ v ]

-- digits spell their value, and other bytes spell nothing
spelled : (n : ℕ) (bs : List ℕ) → spelled_on n bs ≡ cond (all_ascii_digits bs) (Some (value_on n bs)) None
spelled n [] = refl
spelled n (b ∷ bs) =
    elim (nat_le 48 b && nat_le b 57) as (λ (t : Bool). (let on : Option ℕ = elim (cond t (Some (b - 48)) None) as (λ _. Option ℕ) [ None ↦ None | Some d ↦ spelled_on (10 * n + d) bs ] in
    on ≡ cond (t && all_ascii_digits bs) (Some (elim on [ None ↦ 0 | Some v ↦ v ])) None))
    [ true ↦ spelled (10 * n + (b - 48)) bs | false ↦ refl ]

own : IsNumeralModel (λ ds. all_ascii_digits ds ≡ true) (value_on 0)
own = numerals_by_fold _ tells_all_ascii_digits value_on (search rules)

within : (v : ℕ) → v < 2 ^ 16 → at_most 65535 (Some v) ≡ Some v
within v h = grind (arith, nat_tests)

past : (v : ℕ) → 2 ^ 16 ≤ v → at_most 65535 (Some v) ≡ None
past v h = grind (arith, nat_tests)

module _ (b : ℕ) (bs : List ℕ) where
  number : (t : Bool) → all_ascii_digits (b ∷ bs) ≡ t → number_in 65535 (b ∷ bs) ≡ at_most 65535 (cond t (Some (value_on 0 (b ∷ bs))) None)
  number t e = ap (at_most 65535) (spelled 0 (b ∷ bs) ∙ ap (λ (t : Bool). cond t (Some (value_on 0 (b ∷ bs))) None) e)

  not_read : ((all_ascii_digits (b ∷ bs) ≡ true) × (0 < length (b ∷ bs)) × (value_on 0 (b ∷ bs) < 2 ^ 16) → ⊥) → (t : Bool) → all_ascii_digits (b ∷ bs) ≡ t → None ≡ number_in 65535 (b ∷ bs)
  not_read n true e = ⊎_elim (λ l. absurd (n (e, omega arith, l))) (λ g. sym (number true e ∙ past (value_on 0 (b ∷ bs)) g)) (cases_lt (value_on 0 (b ∷ bs)) (2 ^ 16))
  not_read n false e = sym (number false e)

read_plain : {E : Type 0} (bs : List ℕ) (r : Result ℕ E) → OkIff r ((all_ascii_digits bs ≡ true) × (0 < length bs) × (value_on 0 bs < 2 ^ 16)) (value_on 0 bs) → result_ok r ≡ number_in 65535 bs
read_plain [] (Ok x) k = absurd (omega (arith, k.0.1))
read_plain (b ∷ bs) (Ok x) k = ap Some k.1 ∙ sym (number b bs true k.0.0 ∙ within (value_on 0 (b ∷ bs)) k.0.2)
read_plain [] (Err e) k = refl
read_plain (b ∷ bs) (Err e) k = not_read b bs k _ refl

-- what the library reads of a text with no plus sign
pub number_read : {E : Type 0} (bs : List ℕ) (r : Result ℕ E) → ParsesUnsigned 16 10 bs r → eqb (get_or bs 0 0) 43 ≡ false → result_ok r ≡ number_in 65535 bs
number_read bs r h plain = read_plain bs r (parse_plain own 16 bs r h (λ e. let z : eqb (get_or bs 0 0) 43 ≡ true = eq-eqb _ _ e in cc))
