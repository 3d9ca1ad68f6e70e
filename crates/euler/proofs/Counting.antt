-- Counts of what passes a test, by place and over lists.
use Rattle.std.proofs.Common.{◌≡◌, ℕ, zero, suc, ◌+◌, ◌<◌, ◌≤◌, Bool, true, false, cond, ◌&&◌, eqb, ◌≢◌, List, [], ◌∷◌, length, get_or, set, take, count_by, sym, refl, ap, ◌∙◌, add-one, arith, below_more}
use Rattle.std.proofs.lemmas.List.{take_all, map-set, get_or-set_same, get_or-set_other}
use Rattle.std.proofs.lemmas.List.Sums.{sum_by-cons, sum_by_more, get_or-le-sum_by}
use Rattle.std.proofs.lemmas.Bool.Decides.{nat_tests}
use Rattle.lines.specs.declared.line.Line.{Line}
use Rattle.lines.specs.declared.line.Side.{Side}
use Rattle.lines.specs.Lines.{ends, colours, end_at, end_of, Inside}
use Rattle.lines.proofs.Places.{end_line, colour_line, ends_set, length_ends, length_colours}
use Rattle.euler.specs.Halves.{stands, share}
use Rattle.euler.specs.Pairs.{cnt, has}

pub one : {b : Bool} → b ≡ true → cond {A = ℕ} b 1 0 ≡ 1
one z = ap (λ (t : Bool). cond {A = ℕ} t 1 0) z

pub none : {b : Bool} → b ≡ false → cond {A = ℕ} b 1 0 ≡ 0
none z = ap (λ (t : Bool). cond {A = ℕ} t 1 0) z

pub cnt_more : (f : ℕ → Bool) (i : ℕ) → cnt f (i + 1) ≡ cnt f i + cond (f i) 1 0
cnt_more f i = rw add-one

-- line i in the count of the end v and the colour z
module _ (e c : ℕ → ℕ) (v z i : ℕ) where
  pub hit : e i ≡ v → c i ≡ z → cnt (has e c v z) (i + 1) ≡ cnt (has e c v z) i + 1
  hit p q = let more = cnt_more (has e c v z) i in grind (arith, nat_tests)

  pub miss_end : e i ≢ v → cnt (has e c v z) (i + 1) ≡ cnt (has e c v z) i
  miss_end ne = let more = cnt_more (has e c v z) i in grind (arith, nat_tests)

  pub miss_colour : c i ≢ z → cnt (has e c v z) (i + 1) ≡ cnt (has e c v z) i
  miss_colour ne = let more = cnt_more (has e c v z) i in grind (arith, nat_tests)

abbrev nought : Line
nought = record { left = 0; right = 0; colour = 0 }

-- the share of a colour, by place
share_upto : (ls : List Line) (s : Side) (v z i : ℕ) → i ≤ length ls → cnt (has (end_at (ends ls) s) (λ k. get_or (colours ls) k 0) v z) i ≡ count_by (stands s v z) (take i ls)
share_upto ls s v z zero l = refl
share_upto ls s v z (suc i) l =
    let at : has (end_at (ends ls) s) (λ k. get_or (colours ls) k 0) v z i ≡ stands s v z (get_or ls i nought)
    = ap (λ y. eqb y v && eqb (get_or (colours ls) i 0) z) (end_line ls s i nought (omega arith)) ∙ ap (λ y. eqb (end_of s (get_or ls i nought)) v && eqb y z) (colour_line ls i nought (omega arith)) in
    let same : cond {A = ℕ} (has (end_at (ends ls) s) (λ k. get_or (colours ls) k 0) v z i) 1 0 ≡ cond {A = ℕ} (stands s v z (get_or ls i nought)) 1 0 = ap (λ (t : Bool). cond {A = ℕ} t 1 0) at in
    let more : count_by (stands s v z) (take (suc i) ls) ≡ count_by (stands s v z) (take i ls) + cond (stands s v z (get_or ls i nought)) 1 0
    = ap (λ j. count_by (stands s v z) (take j ls)) (sym (add-one i)) ∙ sum_by_more (λ l. cond (stands s v z l) 1 0) ls i nought (omega arith) in
    omega (arith, share_upto ls s v z i (omega arith))

pub share_cnt : (ls : List Line) (s : Side) (v z : ℕ) → cnt (has (end_at (ends ls) s) (λ k. get_or (colours ls) k 0) v z) (length ls) ≡ share s v z ls
share_cnt ls s v z = share_upto ls s v z (length ls) (omega arith) ∙ ap (count_by (stands s v z)) (take_all (length ls) ls (omega arith))

pub count_cons : {X : Type 0} (p : X → Bool) (x : X) (xs : List X) → count_by p (x ∷ xs) ≡ cond (p x) 1 0 + count_by p xs
count_cons p x xs = sum_by-cons (λ y. cond (p y) 1 0) x xs

-- one passes
pub count_some : {X : Type 0} (p : X → Bool) (xs : List X) (k : ℕ) (d : X) → k < length xs → p (get_or xs k d) ≡ true → 1 ≤ count_by p xs
count_some p xs k d l h = let o = one h in omega (arith, get_or-le-sum_by (λ y. cond (p y) 1 0) xs k d l)

-- at most one passes
pub count_one : {X : Type 0} (p : X → Bool) (xs : List X) (i j : ℕ) (d : X) → count_by p xs ≤ 1 → i < length xs → j < length xs → p (get_or xs i d) ≡ true → p (get_or xs j d) ≡ true → i ≡ j
count_one p [] i j d h a b q r = absurd (omega arith)
count_one p (x ∷ xs) zero zero d h a b q r = refl
count_one p (x ∷ xs) zero (suc j) d h a b q r = absurd (let n = count_some p xs j d (omega arith) r in grind (arith, count_cons p x xs))
count_one p (x ∷ xs) (suc i) zero d h a b q r = absurd (let n = count_some p xs i d (omega arith) q in grind (arith, count_cons p x xs))
count_one p (x ∷ xs) (suc i) (suc j) d h a b q r = ap suc (count_one p xs i j d (omega (arith, count_cons p x xs)) (omega arith) (omega arith) q r)

pub stands_from : (s : Side) (v z : ℕ) (l : Line) → end_of s l ≡ v → l.colour ≡ z → stands s v z l ≡ true
stands_from s v z l p q = grind (arith, nat_tests)

-- the end of a line, as the code reads it
pub end_here : (ls : List Line) (s : Side) (k v : ℕ) (d : Line) → Inside (ends ls) → k < length ls → v ≡ end_of s (get_or ls k d) → (end_at (ends ls) s k ≡ v) × (v < 512)
end_here ls s k v d inside l e =
    let same : end_at (ends ls) s k ≡ v = end_line ls s k d l ∙ sym e in
    (same, omega (arith, inside s k (omega (arith, length_ends ls))))

-- one line more gets its colour
pub colour_more : (ls : List Line) (k z : ℕ) (f : ℕ → ℕ) → k < length ls → z ≡ f k → ((j : ℕ) → j < k → get_or (colours ls) j 0 ≡ f j)
    → (ends (set ls k (record (get_or ls k nought) { colour = z })) ≡ ends ls) × ((j : ℕ) → j < k + 1 → get_or (colours (set ls k (record (get_or ls k nought) { colour = z }))) j 0 ≡ f j)
colour_more ls k z f l e h =
    let lc : k < length (colours ls) = rw (length_colours ls) l in (
      ends_set ls k nought _ l refl,
      rw (map-set (λ y. y.colour) ls k _) (below_more _ _ (λ j lj. get_or-set_other (colours ls) k j z 0 (omega arith) ∙ h j lj) (get_or-set_same (colours ls) k z 0 lc ∙ e)),
    )
