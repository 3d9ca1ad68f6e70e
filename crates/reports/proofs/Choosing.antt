-- The best so far, and that it is the best.
use Rattle.std.proofs.Common.{◌≡◌, ℕ, suc, zero, ◌+◌, ◌<◌, ◌≤◌, Bool, true, false, not, List, [], ◌∷◌, ◌++◌, length, get_or, take, find, Some, None, Option, Contains, All, inl, inr, sym, ap, refl, ◌∙◌, subst, ⊎_elim, arith}
use Rattle.std.specs.Cmp.{IsStrictWeakOrder}
use Rattle.std.proofs.lemmas.List.Elements.{All-contains, All-tail, All-push, All-weaker, Contains-push, Contains-append_left}
use Rattle.std.proofs.lemmas.List.Sums.{AllPass-from_list_all, list_all-from_AllPass}
use Rattle.std.proofs.lemmas.List.{nil_from_length, take_more, take_all}
use Rattle.std.proofs.lemmas.Bool.{cond-true, cond-false, cases_Bool}
use Rattle.reports.specs.Choice.{is_topmost, best_due, IsBest}

-- x is one of the records, and none ranks above it
record Top {R : Type 0} (above : R → R → Bool) (xs : List R) (x : R) : Type 0 where
  among : Contains xs x
  none : All (λ y. above y x ≡ false) xs

-- the same, as one name for a search
pub Topmost : {R : Type 0} → (R → R → Bool) → List R → R → Type 0
Topmost above xs x = Top above xs x

module _ {R : Type 0} (p : R → Bool) where
  -- what is found, where there is just one to find
  found_at : (xs : List R) (k : ℕ) (x : R) → k < length xs → get_or xs k x ≡ x → p x ≡ true → All (λ y. p y ≡ true → y ≡ x) xs → find p xs ≡ Some x
  found_at [] k x l at holds only = absurd (omega arith)
  found_at (y ∷ ys) zero x l at holds only = cond-true (p y) (Some y) (find p ys) (ap p at ∙ holds) ∙ ap Some at
  found_at (y ∷ ys) (suc k) x l at holds only =
      ⊎_elim
      (λ (t : p y ≡ true). cond-true (p y) (Some y) (find p ys) t ∙ ap Some (only 0 x (omega arith) t))
      (λ (f : p y ≡ false). cond-false (p y) (Some y) (find p ys) f ∙ found_at ys k x (omega arith) at holds (All-tail (λ z. p z ≡ true → z ≡ x) y ys only))
      (cases_Bool (p y))

  found : (xs : List R) (x : R) → Contains xs x → p x ≡ true → All (λ y. p y ≡ true → y ≡ x) xs → find p xs ≡ Some x
  found xs x c = found_at xs c.0 x c.1 c.2

itself : {R : Type 0} (above : R → R → Bool) → IsStrictWeakOrder above → (x : R) → above x x ≡ false
itself above order x = ⊎_elim (λ (h : above x x ≡ true). order.one_way x x h) (λ (h : above x x ≡ false). h) (cases_Bool (above x x))

module _ {R : Type 0} (above : R → R → Bool) (order : IsStrictWeakOrder above) (apart : (a b : R) → above a b ≡ false → above b a ≡ false → a ≡ b) where
  topmost : (xs : List R) (x : R) → All (λ y. above y x ≡ false) xs → is_topmost above xs x ≡ true
  topmost xs x none = list_all-from_AllPass (λ y. not (above y x)) xs (All-weaker (λ y. above y x ≡ false) (λ y. not (above y x) ≡ true) (λ y f. ap not f) xs none)

  not_above : (xs : List R) (x y : R) → Contains xs y → is_topmost above xs x ≡ true → above y x ≡ false
  not_above xs x y c t =
      ⊎_elim
      (λ (h : above y x ≡ true). let z : true ≡ false = sym (All-contains (λ z. not (above z x) ≡ true) xs y (AllPass-from_list_all (λ z. not (above z x)) xs t) c) ∙ ap not h in absurd cc)
      (λ (h : above y x ≡ false). h)
      (cases_Bool (above y x))

  -- the best is the one that is found
  found_top : (xs : List R) (x : R) → Top above xs x → Some x ≡ best_due above xs
  found_top xs x t =
      sym (found (is_topmost above xs) xs x t.among (topmost xs x t.none)
      (λ k d l h. apart (get_or xs k d) x (t.none k d l) (not_above xs (get_or xs k d) x t.among h)))

  topmost_found : (xs : List R) (x : R) → Topmost above xs x → Some x ≡ best_due above xs
  unfolding Topmost
  topmost_found xs x t = found_top xs x t

  topmost_best : (xs : List R) (x : R) → Topmost above xs x → IsBest above xs (Some x)
  unfolding Topmost IsBest
  topmost_best xs x t = (
    t.among,
    λ k d l.
        ⊎_elim
        (λ (h : above x (get_or xs k d) ≡ true). inr h)
        (λ (h : above x (get_or xs k d) ≡ false). inl (apart (get_or xs k d) x (t.none k d l) h))
        (cases_Bool (above x (get_or xs k d))),
  )

  best_top : (xs : List R) (x : R) → IsBest above xs (Some x) → Top above xs x
  unfolding IsBest
  best_top xs x h = record {
    among = h.0;
    none = λ k d l. ⊎_elim (λ (e : get_or xs k d ≡ x). ap (λ y. above y x) e ∙ itself above order x) (λ (a : above x (get_or xs k d) ≡ true). order.one_way x (get_or xs k d) a) (h.1 k d l);
  }

  pub best_among : (xs : List R) (x : R) → IsBest above xs (Some x) → Contains xs x
  best_among xs x h = (best_top xs x h).among

  pub best_none : (xs : List R) (x : R) → IsBest above xs (Some x) → All (λ y. above y x ≡ false) xs
  best_none xs x h = (best_top xs x h).none

  -- being the best decides which record it is
  pub decided : (xs : List R) (o : Option R) → IsBest above xs o → o ≡ best_due above xs
  unfolding IsBest
  decided xs None h = rw h refl
  decided xs (Some x) h = found_top xs x (best_top xs x h)

-- ---- the loop: the first record, and then the rest one by one

module _ {R : Type 0} (above : R → R → Bool) (xs rest : List R) (a : R) (parts : xs ≡ a ∷ rest) (i : ℕ) (x b : R) (l : i < length rest) (at : x ≡ get_or rest i x) where
  there : get_or xs (i + 1) x ≡ x
  there = rw parts (subst (λ j. get_or (a ∷ rest) j x ≡ x) {x = suc i} {y = i + 1} (omega arith) (sym at))

  next : take (i + 1 + 1) xs ≡ take (i + 1) xs ++ x ∷ []
  next = take_more xs (i + 1) x (rw parts (omega arith)) ∙ ap (λ y. take (i + 1) xs ++ y ∷ []) {x = get_or xs (i + 1) x} {y = x} there

  pub keeps : Topmost above (take (i + 1) xs) b → above x b ≡ false → Topmost above (take (i + 1 + 1) xs) b
  unfolding Topmost
  keeps t f = rw next (record { among = Contains-append_left (take (i + 1) xs) (x ∷ []) b t.among; none = All-push (λ y. above y b ≡ false) (take (i + 1) xs) x t.none f })

  pub takes : IsStrictWeakOrder above → Topmost above (take (i + 1) xs) b → above x b ≡ true → Topmost above (take (i + 1 + 1) xs) x
  unfolding Topmost
  takes order t h =
      let old = All-weaker (λ y. above y b ≡ false) (λ y. above y x ≡ false) (λ y f. order.chain y b x f (order.one_way x b h)) (take (i + 1) xs) t.none in
      rw next (record { among = Contains-push (take (i + 1) xs) x; none = All-push (λ y. above y x ≡ false) (take (i + 1) xs) x old (itself above order x) })

-- the first record alone, and all of them
pub topmost_first : {R : Type 0} (above : R → R → Bool) → IsStrictWeakOrder above → (xs rest : List R) (a : R) → xs ≡ a ∷ rest → Topmost above (take (0 + 1) xs) a
unfolding Topmost
topmost_first above order xs rest a parts = rw parts (record { among = (0, omega arith, refl); none = λ k d l. ap (λ y. above y a) (only k d l) ∙ itself above order a })
  where
    only : (k : ℕ) (d : _) → k < length (a ∷ []) → get_or (a ∷ []) k d ≡ a
    only zero d l = refl
    only (suc k) d l = absurd (omega arith)

all_seen : {R : Type 0} (above : R → R → Bool) (xs rest : List R) (a : R) (i : ℕ) (b : R) → xs ≡ a ∷ rest → length rest ≤ i → Topmost above (take (i + 1) xs) b → Topmost above xs b
all_seen above xs rest a i b parts l t = subst (λ ys. Topmost above ys b) (take_all (i + 1) xs (rw parts (omega arith))) t

module _ {R : Type 0} (above : R → R → Bool) (order : IsStrictWeakOrder above) (apart : (a b : R) → above a b ≡ false → above b a ≡ false → a ≡ b) (xs rest : List R) (a : R) (i : ℕ) (b : R) (parts : xs ≡ a ∷ rest) (l : length rest ≤ i) (t : Topmost above (take (i + 1) xs) b) where
  pub last_found : Some b ≡ best_due above xs
  last_found = topmost_found above order apart xs b (all_seen above xs rest a i b parts l t)

  pub last_best : IsBest above xs (Some b)
  last_best = topmost_best above order apart xs b (all_seen above xs rest a i b parts l t)

-- of no record there is none
pub none_best : {R : Type 0} (above : R → R → Bool) (xs : List R) → length xs ≡ 0 → IsBest above xs None
unfolding IsBest
none_best above xs e = nil_from_length xs e

pub ruleset choosing = (none_best, topmost_first, keeps, takes, last_found, last_best)
