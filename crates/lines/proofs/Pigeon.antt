-- The pigeonhole principle for places, and counts of a list as counts of places.
use Rattle.std.proofs.Common.{◌≡◌, ℕ, zero, suc, ◌+◌, ◌<◌, ◌≤◌, Bool, true, cond, ◌&&◌, eqb, ltb, ◌≢◌, ◌⊎◌, List, [], ◌∷◌, length, get_or, count_by, refl, ◌∙◌, inl, inr, arith}
use Rattle.std.proofs.lemmas.List.Sums.{sum_by-cons}
use Rattle.std.proofs.lemmas.Bool.{cases_Bool, cases_eq, both_ways, eqb-true, eq-eqb, ltb-true, lt-ltb, and_parts, and_from}
use Rattle.lines.proofs.Count.{cnt, cnt_drop}
use Rattle.lines.proofs.Colour.{deg}

find : (t : ℕ → Bool) (n : ℕ) → ((i : ℕ) × (i < n) × (t i ≡ true)) ⊎ ((i : ℕ) → i < n → t i ≡ true → ⊥)
find t zero = inr (λ i l _. omega arith)
find t (suc n) =
    elim (find t n) [
      | inl r ↦ inl (r.0, omega arith, r.2)
      | inr none ↦
          elim (cases_Bool (t n)) [
            | inl yes-n ↦ inl (n, omega arith, yes-n)
            | inr no-n ↦ inr (λ i l e. elim (cases_eq i n) [ inl at ↦ both_ways (t n) no-n (rw at at e) | inr off ↦ none i (omega arith) e ])
          ]
    ]

cnt_none : (t : ℕ → Bool) (n : ℕ) → ((i : ℕ) → i < n → t i ≡ true → ⊥) → cnt t n ≤ 0
cnt_none t zero none = omega arith
cnt_none t (suc n) none =
    let ih : cnt t n ≤ 0 = cnt_none t n (λ i l. none i (omega arith)) in
    let here : t n ≡ true → ⊥ = none n (omega arith) in
    grind arith

-- places that pass t and have different numbers f below m are at most m
pub pigeon : (t : ℕ → Bool) (f : ℕ → ℕ) (n m : ℕ) → ((i : ℕ) → i < n → t i ≡ true → f i < m)
    → ((i j : ℕ) → i < n → j < n → i ≢ j → t i ≡ true → t j ≡ true → f i ≢ f j) → cnt t n ≤ m
pigeon t f n zero low apart = cnt_none t n (λ i l p. omega (arith, low i l p))
pigeon t f n (suc m) low apart =
    elim (find (λ i. t i && eqb (f i) m) n) [
      | inl r ↦
          (let t' : ℕ → Bool = λ j. t j && ltb (f j) m in
          let is = and_parts (t r.0) (eqb (f r.0) m) r.2 in
          let ih : cnt t' n ≤ m = pigeon t' f n m (λ i l p. ltb-true (f i) m (and_parts (t i) (ltb (f i) m) p).1) (λ i j li lj ne p q. apart i j li lj ne (and_parts (t i) (ltb (f i) m) p).0 (and_parts (t j) (ltb (f j) m) q).0) in
          omega (arith, cnt_drop t t' n r.0 (λ j l p ne. and_from (t j) (ltb (f j) m) p (lt-ltb (f j) m (omega (arith, low j l p, apart j r.0 l r.1 ne p is.0, eqb-true (f r.0) m is.1))))))
      | inr none ↦ omega (arith, pigeon t f n m (λ i l p. let off : f i ≢ m = λ e. none i l (and_from (t i) (eqb (f i) m) p (eq-eqb (f i) m e)) in omega (arith, low i l p)) apart)
    ]

-- the same, of the lines with the end v
pub deg_pigeon : (p f : ℕ → ℕ) (n m v : ℕ) → ((i : ℕ) → i < n → p i ≡ v → f i < m)
    → ((i j : ℕ) → i < n → j < n → i ≢ j → p i ≡ v → p j ≡ v → f i ≢ f j) → deg p n v ≤ m
deg_pigeon p f n m v low apart =
    pigeon (λ i. eqb (p i) v) f n m (λ i l e. low i l (eqb-true (p i) v e)) (λ i j li lj ne e e'. apart i j li lj ne (eqb-true (p i) v e) (eqb-true (p j) v e'))

cnt_front : (t : ℕ → Bool) (n : ℕ) → cnt t (suc n) ≡ cond (t 0) 1 0 + cnt (λ i. t (suc i)) n
cnt_front t zero = refl
cnt_front t (suc n) = omega (arith, cnt_front t n)

pub count_by_cnt : {X : Type 0} (t : X → Bool) (xs : List X) (d : X) → count_by t xs ≡ cnt (λ i. t (get_or xs i d)) (length xs)
count_by_cnt t [] d = refl
count_by_cnt t (x ∷ xs) d = sum_by-cons (λ y. cond (t y) 1 0) x xs ∙ omega (arith, cnt_front (λ i. t (get_or (x ∷ xs) i d)) (length xs), count_by_cnt t xs d)
