-- Steps of the tests for refusals, and what follows where no refusal is due.
use Rattle.std.proofs.Common.{◌≡◌, ℕ, zero, suc, ◌+◌, ◌<◌, ◌≤◌, Bool, true, false, cond, ◌||◌, eqb, ltb, List, [], ◌∷◌, length, get_or, Some, None, count_by, Option, sym, refl, ap, ◌∙◌, ⊎_elim, arith}
use Rattle.std.proofs.lemmas.List.Sums.{sum_by-cons}
use Rattle.std.proofs.lemmas.List.{get_or_default}
use Rattle.std.proofs.lemmas.Bool.{lt-ltb, le-ltb, ltb-false, or_parts, cases_Bool, cases_lt, cond-true, cond-false, ne_eqb}
use Rattle.lines.specs.declared.line.Line.{Line}
use Rattle.lines.specs.declared.line.Side.{Side}
use Rattle.lines.specs.declared.line.Side.TheVariants.{Left, Right}
use Rattle.lines.specs.Lines.{ends, on, degree, DegreesWithin, Inside}
use Rattle.lines.specs.Refusals.{end_above, bounds_refusal, lowest_above, crowded, crowd_refusal, refusal_due}

-- the ends of lines none of whose ends is above 511
pub inside_from : (ls : List Line) → end_above ls ≡ false → Inside (ends ls)
inside_from [] h s k l = absurd (omega arith)
inside_from (x ∷ ls) h Left zero l = omega (arith, ltb-false 511 x.left (or_parts (ltb 511 x.left) (ltb 511 x.right) (or_parts (ltb 511 x.left || ltb 511 x.right) (end_above ls) h).0).0)
inside_from (x ∷ ls) h Right zero l = omega (arith, ltb-false 511 x.right (or_parts (ltb 511 x.left) (ltb 511 x.right) (or_parts (ltb 511 x.left || ltb 511 x.right) (end_above ls) h).0).1)
inside_from (x ∷ ls) h Left (suc k) l = inside_from ls (or_parts (ltb 511 x.left || ltb 511 x.right) (end_above ls) h).1 Left k (omega arith)
inside_from (x ∷ ls) h Right (suc k) l = inside_from ls (or_parts (ltb 511 x.left || ltb 511 x.right) (end_above ls) h).1 Right k (omega arith)

-- the lowest number at which f is above c, and none
module _ (f : ℕ → ℕ) (c : ℕ) where
  pub is_lowest : (v n w : ℕ) → v ≤ w → w < v + n → c < f w → ((u : ℕ) → v ≤ u → u < w → f u ≤ c) → lowest_above f c v n ≡ Some w
  unfolding lowest_above
  is_lowest v zero w a b h low = absurd (omega arith)
  is_lowest v (suc n) w a b h low =
      ⊎_elim
      (λ (q : v < w). cond-false (ltb c (f v)) (Some v) (lowest_above f c (v + 1) n) (le-ltb c (f v) (low v (omega arith) q)) ∙ is_lowest (v + 1) n w (omega arith) (omega arith) h (λ u p. low u (omega arith)))
      (λ (q : w ≤ v). let same : w ≡ v = omega arith in rw same (cond-true (ltb c (f v)) (Some v) (lowest_above f c (v + 1) n) (lt-ltb c (f v) (rw (← same) h))))
      (cases_lt v w)

  pub none_above : (v n : ℕ) → ((u : ℕ) → v ≤ u → u < v + n → f u ≤ c) → lowest_above f c v n ≡ None
  unfolding lowest_above
  none_above v zero low = refl
  none_above v (suc n) low =
      cond-false (ltb c (f v)) (Some v) (lowest_above f c (v + 1) n) (le-ltb c (f v) (low v (omega arith) (omega arith))) ∙ none_above (v + 1) n (λ u p q. low u (omega arith) (omega arith))

  pub above_none : (v n k : ℕ) → lowest_above f c v n ≡ None → v ≤ k → k < v + n → f k ≤ c
  unfolding lowest_above
  above_none v zero k e a b = absurd (omega arith)
  above_none v (suc n) k e a b =
      ⊎_elim
      (λ (z : ltb c (f v) ≡ true). let y : Some v ≡ None = sym (cond-true (ltb c (f v)) (Some v) (lowest_above f c (v + 1) n) z) ∙ e in absurd (let q : ◌≡◌ {A = ℕ} 0 1 = cc in omega arith))
      (λ (z : ltb c (f v) ≡ false).
      let rest : lowest_above f c (v + 1) n ≡ None = sym (cond-false (ltb c (f v)) (Some v) (lowest_above f c (v + 1) n) z) ∙ e in
      ⊎_elim (λ (q : v < k). above_none (v + 1) n k rest (omega arith) (omega arith)) (λ (q : k ≤ v). let same : k ≡ v = omega arith in rw same (ltb-false c (f v) z)) (cases_lt v k))
      (cases_Bool (ltb c (f v)))

-- an end above 511 has no lines
count_none : {X : Type 0} (p : X → Bool) (xs : List X) → ((k : ℕ) (d : X) → k < length xs → p (get_or xs k d) ≡ false) → count_by p xs ≡ 0
count_none p [] h = refl
count_none p (x ∷ xs) h =
    let z : cond (p x) 1 0 ≡ 0 = ap (λ (t : Bool). cond {A = ℕ} t 1 0) (h 0 x (omega arith)) in
    omega (arith, sum_by-cons (λ y. cond (p y) 1 0) x xs, count_none p xs (λ k d l. h (suc k) d (omega arith)))

pub degree_past : (s : Side) (v : ℕ) (ps : List (ℕ × ℕ)) → Inside ps → 512 ≤ v → degree s v ps ≡ 0
degree_past s v ps h far = count_none (λ p. eqb (on s p) v) ps
    (λ k d l. ne_eqb (on s (get_or ps k d)) v (λ z. omega (arith, h s k l, ap (on s) (get_or_default ps k d (0, 0) l))))

within_from : (c : ℕ) (ps : List (ℕ × ℕ)) → Inside ps → crowded Left c ps ≡ None → crowded Right c ps ≡ None → DegreesWithin c ps
within_from c ps h a b s v =
    ⊎_elim (λ (l : v < 512). one s l) (λ (l : 512 ≤ v). omega (arith, degree_past s v ps h l)) (cases_lt v 512)
  where
    one : (s : Side) → v < 512 → degree s v ps ≤ c
    one Left l = above_none (λ y. degree Left y ps) c 0 512 v a (omega arith) (omega arith)
    one Right l = above_none (λ y. degree Right y ps) c 0 512 v b (omega arith) (omega arith)

cond_none : {A : Type 0} (b : Bool) (x : A) (o : Option A) → cond b (Some x) o ≡ None → (b ≡ false) × (o ≡ None)
cond_none true x o e = absurd (let q : ◌≡◌ {A = ℕ} 0 1 = cc in omega arith)
cond_none false x o e = (refl, e)

no_crowd : (o p : Option ℕ) → crowd_refusal o p ≡ None → (o ≡ None) × (p ≡ None)
no_crowd (Some v) p e = absurd (let q : ◌≡◌ {A = ℕ} 0 1 = cc in omega arith)
no_crowd None (Some v) e = absurd (let q : ◌≡◌ {A = ℕ} 0 1 = cc in omega arith)
no_crowd None None e = (refl, refl)

-- what holds of lines that are not refused
pub record Accepted (served : Bool) (c : ℕ) (ls : List Line) : Type 0 where
  pub serves : served ≡ true
  pub few : length ls ≤ 1024
  pub inside : Inside (ends ls)
  pub within : DegreesWithin c (ends ls)

pub accepted : (served : Bool) (c : ℕ) (ls : List Line) → refusal_due served c ls ≡ None → Accepted served c ls
accepted false c ls e = absurd (let q : ◌≡◌ {A = ℕ} 0 1 = cc in omega arith)
accepted true c ls e =
    let crowd = crowd_refusal (crowded Left c (ends ls)) (crowded Right c (ends ls)) in
    let a = cond_none (ltb 1024 (length ls)) _ (cond (end_above ls) (Some (record { number = 25; end = None })) crowd) e in
    let b = cond_none (end_above ls) _ crowd a.1 in
    let d = no_crowd (crowded Left c (ends ls)) (crowded Right c (ends ls)) b.1 in
    record {
      serves = refl;
      few = ltb-false 1024 (length ls) a.0;
      inside = inside_from ls b.0;
      within = within_from c (ends ls) (inside_from ls b.0) d.0 d.1;
    }

-- lines that are not too many, with no end too high and none crowded, are not refused
pub not_refused : (c : ℕ) (ls : List Line) → bounds_refusal ls ≡ None → DegreesWithin c (ends ls) → refusal_due true c ls ≡ None
not_refused c ls e h =
    let a = cond_none (ltb 1024 (length ls)) _ (cond (end_above ls) (Some (record { number = 25; end = None })) None) e in
    let b = cond_none (end_above ls) _ None a.1 in
    rw (a.0, b.0, none_above (λ v. degree Left v (ends ls)) c 0 512 (λ u _ _. h Left u), none_above (λ v. degree Right v (ends ls)) c 0 512 (λ u _ _. h Right u)) refl
