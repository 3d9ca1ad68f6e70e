-- The places that pass a test, as a rising list.
use Rattle.std.proofs.Common.{◌≡◌, ℕ, zero, suc, ◌+◌, ◌<◌, ◌≤◌, Bool, true, false, cond, eqb, ltb, ◌≢◌, List, [], ◌∷◌, ◌++◌, length, get_or, refl, sym, ap, ◌∙◌, inl, inr, ⊎_elim, arith, add-zero, append-nil}
use Rattle.std.specs.List.{filter, range_with_len}
use Rattle.std.proofs.lemmas.List.Elements.{filter-append}
use Rattle.std.proofs.lemmas.List.{get_or_push, get_or_append_left, length-append}
use Rattle.std.proofs.lemmas.Bool.{cases_lt, cases_eq, cases_Bool, both_ways, cond-true, cond-false}
use Rattle.std.proofs.lemmas.Bool.Decides.{nat_tests}
use Rattle.lines.proofs.Count.{cnt, cnt_mono}

-- the places below n that pass t
abbrev pub listed : (ℕ → Bool) → ℕ → List ℕ
listed t n = filter t (range_with_len 0 n)

range_more : (a n : ℕ) → range_with_len a (suc n) ≡ range_with_len a n ++ ((a + n) ∷ [])
range_more a zero = rw add-zero refl
range_more a (suc n) =
    let e : a + 1 + n ≡ a + suc n = omega arith in
    ap (λ (xs : List ℕ). a ∷ xs) (range_more (a + 1) n ∙ ap (λ (x : ℕ). range_with_len (a + 1) n ++ (x ∷ [])) e)

-- one place more
listed_more : (t : ℕ → Bool) (n : ℕ) → listed t (suc n) ≡ listed t n ++ cond (t n) (n ∷ []) []
listed_more t n =
    let e : 0 + n ≡ n = omega arith in
    ap (filter t) (range_more 0 n ∙ ap (λ (x : ℕ). range_with_len 0 n ++ (x ∷ [])) e) ∙ filter-append t (range_with_len 0 n) (n ∷ [])

pub listed_yes : (t : ℕ → Bool) (n : ℕ) → t n ≡ true → listed t (suc n) ≡ listed t n ++ (n ∷ [])
listed_yes t n e = listed_more t n ∙ ap (λ (xs : List ℕ). listed t n ++ xs) (cond-true (t n) (n ∷ []) [] e)

listed_no : (t : ℕ → Bool) (n : ℕ) → t n ≡ false → listed t (suc n) ≡ listed t n
listed_no t n e = listed_more t n ∙ ap (λ (xs : List ℕ). listed t n ++ xs) (cond-false (t n) (n ∷ []) [] e) ∙ append-nil (listed t n)

-- places that do not pass add nothing
pub listed_skip : (t : ℕ → Bool) (i n : ℕ) → i ≤ n → ((j : ℕ) → i ≤ j → j < n → t j ≡ false) → listed t n ≡ listed t i
listed_skip t i zero l none = let e : 0 ≡ i = omega arith in ap (listed t) e
listed_skip t i (suc n) l none =
    ⊎_elim
    (λ (k : n < i). let e : suc n ≡ i = omega arith in ap (listed t) e)
    (λ (k : i ≤ n). listed_no t n (none n k (omega arith)) ∙ listed_skip t i n k (λ j a b. none j a (omega arith)))
    (cases_lt n i)

-- ps holds the places below n that pass t, each once and rising
pub record Lists (t : ℕ → Bool) (n : ℕ) (ps : List ℕ) : Type 0 where
  pub below : (a : ℕ) → a < length ps → get_or ps a 0 < n
  pub passes : (a : ℕ) → a < length ps → t (get_or ps a 0) ≡ true
  pub rise : (a b : ℕ) → a < b → b < length ps → get_or ps a 0 < get_or ps b 0
  pub finds : (i : ℕ) → i < n → t i ≡ true → (a : ℕ) × (a < length ps) × (get_or ps a 0 ≡ i)
  pub count : length ps ≡ cnt t n

pub apart : (t : ℕ → Bool) (n : ℕ) (ps : List ℕ) → Lists t n ps → (a b : ℕ) → a < length ps → b < length ps → a ≢ b → get_or ps a 0 ≢ get_or ps b 0
apart t n ps h a b la lb ne e = elim (cases_lt a b) [ inl l ↦ omega (arith, h.rise a b l lb) | inr l ↦ omega (arith, h.rise b a (omega arith) la) ]

module _ (t : ℕ → Bool) (n : ℕ) (ps : List ℕ) (h : Lists t n ps) where
  abbrev more : List ℕ
  more = ps ++ (n ∷ [])

  long : length more ≡ length ps + 1
  long = length-append ps (n ∷ [])

  old : (a : ℕ) → a < length ps → get_or more a 0 ≡ get_or ps a 0
  old a l = get_or_append_left ps (n ∷ []) 0 a l

  last : (a : ℕ) → length ps ≡ a → get_or more a 0 ≡ n
  last a e = get_or_push ps n 0 a e

  -- a place of the longer list is one of the list, or the last
  at_more : (P : ℕ → Type 0) → ((a : ℕ) → a < length ps → P (get_or ps a 0)) → P n → (a : ℕ) → a < length more → P (get_or more a 0)
  at_more P each here a l =
      elim (cases_lt a (length ps)) [
        | inl k ↦ rw (old a k) (each a k)
        | inr k ↦ (let e : length ps ≡ a = omega (arith, long) in rw (last a e) here)
      ]

  lists_yes : t n ≡ true → Lists t (suc n) more
  lists_yes e = record {
    below = at_more (λ x. x < suc n) (λ a l. omega (arith, h.below a l)) (omega arith);
    passes = at_more (λ x. t x ≡ true) h.passes e;
    rise = λ a b l k.
        let la : a < length ps = omega (arith, long) in
        elim (cases_lt b (length ps)) [
          | inl lb ↦ omega (arith, old a la, old b lb, h.rise a b l lb)
          | inr lb ↦ (let e : length ps ≡ b = omega (arith, long) in omega (arith, old a la, last b e, h.below a la))
        ];
    finds = λ i l p. elim (cases_lt i n) [
      | inl k ↦ (let f = h.finds i k p in (f.0, omega (arith, f.1, long), old f.0 f.1 ∙ f.2))
      | inr k ↦ (length ps, omega (arith, long), omega (arith, last (length ps) refl))
    ];
    count = let one : ◌≡◌ {A = ℕ} (cond (t n) 1 0) 1 = cond-true (t n) 1 0 e in omega (arith, long, h.count);
  }

  lists_no : t n ≡ false → Lists t (suc n) ps
  lists_no e = record {
    below = λ a l. omega (arith, h.below a l);
    passes = h.passes;
    rise = h.rise;
    finds = λ i l p. elim (cases_eq i n) [ inl at ↦ absurd (both_ways (t n) e (rw (← at) p)) | inr off ↦ h.finds i (omega arith) p ];
    count = let none : ◌≡◌ {A = ℕ} (cond (t n) 1 0) 0 = cond-false (t n) 1 0 e in omega (arith, h.count);
  }

pub lists : (t : ℕ → Bool) (n : ℕ) → Lists t n (listed t n)
lists t zero = record { below = λ a l. absurd (omega arith); passes = λ a l. absurd (omega arith); rise = λ a b l k. absurd (omega arith); finds = λ i l. absurd (omega arith); count = refl }
lists t (suc n) =
    ⊎_elim
    (λ (e : t n ≡ true). rw (listed_yes t n e) (lists_yes t n (listed t n) (lists t n) e))
    (λ (e : t n ≡ false). rw (listed_no t n e) (lists_no t n (listed t n) (lists t n) e))
    (cases_Bool (t n))

pub cnt_below : (t : ℕ → Bool) (n : ℕ) → cnt t n ≤ n
cnt_below t zero = omega arith
cnt_below t (suc n) = let h : cnt t n ≤ n = cnt_below t n in grind arith

-- a number more below which to look
pub cnt_split : (f : ℕ → ℕ) (k n : ℕ) → cnt (λ i. ltb (f i) (k + 1)) n ≡ cnt (λ i. ltb (f i) k) n + cnt (λ i. eqb (f i) k) n
cnt_split f k zero = refl
cnt_split f k (suc n) = let h : cnt (λ i. ltb (f i) (k + 1)) n ≡ cnt (λ i. ltb (f i) k) n + cnt (λ i. eqb (f i) k) n = cnt_split f k n in grind (arith, nat_tests)

pub cnt_none : (t : ℕ → Bool) (n : ℕ) → ((i : ℕ) → i < n → t i ≡ false) → cnt t n ≡ 0
cnt_none t zero h = refl
cnt_none t (suc n) h = let e = h n (omega arith) in let ih : cnt t n ≡ 0 = cnt_none t n (λ i l. h i (omega arith)) in grind arith

pub cnt_all : (t : ℕ → Bool) (n : ℕ) → ((i : ℕ) → i < n → t i ≡ true) → cnt t n ≡ n
cnt_all t zero h = refl
cnt_all t (suc n) h = let e = h n (omega arith) in let ih : cnt t n ≡ n = cnt_all t n (λ i l. h i (omega arith)) in grind arith

pub cnt_same : (t u : ℕ → Bool) (n : ℕ) → ((i : ℕ) → t i ≡ u i) → cnt t n ≡ cnt u n
cnt_same t u n h = let a = cnt_mono t u n (λ i _ e. sym (h i) ∙ e) in let b = cnt_mono u t n (λ i _ e. h i ∙ e) in omega (arith, a, b)
