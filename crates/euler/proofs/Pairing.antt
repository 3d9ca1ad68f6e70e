-- One line more is paired at its end.
use Rattle.std.proofs.Common.{◌≡◌, ℕ, ◌+◌, ◌<◌, ◌≤◌, ◌≢◌, List, length, get_or, set, Some, None, Option, sym, refl, ap, ◌∙◌, ⊎_elim, arith}
use Rattle.std.proofs.lemmas.List.{length-set, get_or-set_same, get_or-set_other}
use Rattle.std.proofs.lemmas.Bool.{cases_eq}
use Rattle.lines.specs.declared.line.Side.{Side}
use Rattle.lines.specs.declared.line.Side.TheVariants.{Left, Right}
use Rattle.lines.specs.Lines.{other}
use Rattle.euler.specs.declared.pairs.Partners.{Partners}
use Rattle.euler.specs.Pairs.{at, Empty, nobody, partner_on, with_partner, partner, set_partner, singles_after, partners_after, cnt, has, Alternates, Paired}
use Rattle.euler.proofs.Counting.{hit, miss_end, miss_colour}

pub apart : {A : Type 0} {x : A} {o : Option A} → o ≡ None → o ≡ Some x → ⊥
apart p q = cc

pub some_same : {A : Type 0} {x y : A} {o : Option A} → o ≡ Some x → o ≡ Some y → x ≡ y
some_same p q = cc

-- a and b lines have the colours 0 and 1, the single one among them
abbrev pub Balance : ℕ → ℕ → (ℕ → ℕ) → Option ℕ → Type 0
Balance a b c None = a ≡ b
Balance a b c (Some k) = (c k ≡ 0 → a ≡ b + 1) × (c k ≡ 1 → b ≡ a + 1)

-- the first i lines are paired at each end e, as p says; o has the single line at each end
pub record Pairing (e : ℕ → ℕ) (o p : ℕ → Option ℕ) (i : ℕ) : Type 0 where
  pub symmetric : (k j : ℕ) → k < i → p k ≡ Some j → (j < i) × (j ≢ k) × (p j ≡ Some k)
  pub singles : (v k : ℕ) → o v ≡ Some k → (k < i) × (p k ≡ None) × (e k ≡ v)
  pub even : (c : ℕ → ℕ) → Alternates i p c → (v : ℕ) → Balance (cnt (has e c v 0) i) (cnt (has e c v 1) i) c (o v)

module _ (e : ℕ → ℕ) (o p : ℕ → Option ℕ) (i : ℕ) (w : Pairing e o p i) (q r : ℕ → Option ℕ) (old : (v : ℕ) → v ≢ e i → q v ≡ o v) where
  -- the counts at another end
  elsewhere : (c : ℕ → ℕ) → Alternates i p c → (v : ℕ) → v ≢ e i → Balance (cnt (has e c v 0) (i + 1)) (cnt (has e c v 1) (i + 1)) c (q v)
  elsewhere c alt v ne =
      rw (old v ne, miss_end e c v 0 i (λ y. ne (sym y)), miss_end e c v 1 i (λ y. ne (sym y))) (w.even c alt v)

  -- a line that is single
  pub pairing_single : o (e i) ≡ None → q (e i) ≡ Some i → r i ≡ None → ((k : ℕ) → k ≢ i → r k ≡ p k) → Pairing e q r (i + 1)
  pairing_single free new ri rest = record {
    symmetric = λ k j l z. let m = w.symmetric k j in let rk = rest k in let rj = rest j in grind arith;
    singles = λ v k z. let m = w.singles v k in let rk = rest k in let ov = old v in grind arith;
    even = λ c alt v.
        let alt' : Alternates i p c = record { two = λ k l. alt.two k (omega arith); differ = λ k j l z. alt.differ k j (omega arith) (rest k (omega arith) ∙ z) } in
        ⊎_elim
        (λ (y : v ≡ e i).
        let b : cnt (has e c v 0) i ≡ cnt (has e c v 1) i = rw (ap o y ∙ free) at (w.even c alt' v) in
        rw (ap q y ∙ new) (
          λ g. omega (arith, hit e c v 0 i (sym y) g, miss_colour e c v 1 i (omega arith)),
          λ g. omega (arith, hit e c v 1 i (sym y) g, miss_colour e c v 0 i (omega arith)),
        ))
        (λ (ne : v ≢ e i). elsewhere c alt' v ne)
        (cases_eq v (e i));
  }

  -- a line whose partner is the single one j
  pub pairing_pair : (j : ℕ) → o (e i) ≡ Some j → q (e i) ≡ None → r i ≡ Some j → r j ≡ Some i → ((k : ℕ) → k ≢ i → k ≢ j → r k ≡ p k) → Pairing e q r (i + 1)
  pairing_pair j found new ri rj rest =
      let here = w.singles (e i) j found in
      let alone : (k m : ℕ) → p k ≡ Some m → k ≢ j = λ k m z y. apart (ap p y ∙ here.1) z in
      record {
        symmetric = λ k m l z. let s = w.symmetric k m in let rk = rest k in let rm = rest m in let ak = alone k m in grind arith;
        singles = λ v k z. let m = w.singles v k in let rk = rest k in let ov = old v in grind arith;
        even = λ c alt v.
            let alt' : Alternates i p c = record { two = λ k l. alt.two k (omega arith); differ = λ k m l z. alt.differ k m (omega arith) (rest k (omega arith) (alone k m z) ∙ z) } in
            ⊎_elim
            (λ (y : v ≡ e i).
            let b : (c j ≡ 0 → cnt (has e c v 0) i ≡ cnt (has e c v 1) i + 1) × (c j ≡ 1 → cnt (has e c v 1) i ≡ cnt (has e c v 0) i + 1) = rw (ap o y ∙ found) at (w.even c alt' v) in
            let ci : c i < 2 = alt.two i (omega arith) in
            let cj : c j < 2 = alt.two j (omega arith) in
            let differ : c j ≢ c i = alt.differ i j (omega arith) ri in
            let n0 = hit e c v 0 i (sym y) in
            let n1 = hit e c v 1 i (sym y) in
            let m0 = miss_colour e c v 0 i in
            let m1 = miss_colour e c v 1 i in
            rw (ap q y ∙ new) (grind arith))
            (λ (ne : v ≢ e i). elsewhere c alt' v ne)
            (cases_eq v (e i));
      }

pub pairing_none : (e : ℕ → ℕ) (o p : ℕ → Option ℕ) → ((v : ℕ) → o v ≡ None) → Pairing e o p 0
pairing_none e o p empty = record {
  symmetric = λ k j l z. absurd (omega arith);
  singles = λ v k z. absurd (apart (empty v) z);
  even = λ c alt v. rw (empty v) refl;
}

balanced : (a b : ℕ) (c : ℕ → ℕ) (o : Option ℕ) → ((k : ℕ) → o ≡ Some k → c k < 2) → Balance a b c o → (a ≤ b + 1) × (b ≤ a + 1)
balanced a b c None low h = (omega arith, omega arith)
balanced a b c (Some k) low h = let two : c k < 2 = low k refl in grind arith

pub pairing_all : (e : ℕ → ℕ) (o p : ℕ → Option ℕ) (n : ℕ) → Pairing e o p n → Paired n e p
pairing_all e o p n w = record {
  symmetric = w.symmetric;
  even = λ c alt v. balanced (cnt (has e c v 0) n) (cnt (has e c v 1) n) c (o v) (λ k z. alt.two k (w.singles v k z).0) (w.even c alt v);
}

-- lines that are paired on a side, and then on the other
pub paired_still : (n : ℕ) (e : ℕ → ℕ) (s : Side) (ps qs : List Partners) → Paired n e (partner ps s) → ((k : ℕ) → partner qs s k ≡ partner ps s k) → Paired n e (partner qs s)
paired_still n e s ps qs paired same = record {
  symmetric = λ k j l z. let m = paired.symmetric k j l (sym (same k) ∙ z) in (m.0, m.1, same j ∙ m.2);
  even = λ c alt v. paired.even c (record { two = alt.two; differ = λ k j l z. alt.differ k j l (same k ∙ z) }) v;
}

pub paired_both : (n : ℕ) (e : Side → ℕ → ℕ) (ps : List Partners) → Paired n (e Left) (partner ps Left) → Paired n (e Right) (partner ps Right) → (s : Side) → Paired n (e s) (partner ps s)
paired_both n e ps left right Left = left
paired_both n e ps left right Right = right

-- partners where one of them has changed
module _ (s : Side) (ps : List Partners) (k : ℕ) (o : Option ℕ) where
  pub set_here : k < length ps → partner (set_partner s ps k o) s k ≡ o
  set_here l = ap (partner_on s) (get_or-set_same ps k _ nobody l) ∙ new s
    where
      new : (t : Side) → partner_on t (with_partner t o (get_or ps k nobody)) ≡ o
      new Left = refl
      new Right = refl

  pub set_elsewhere : (t : Side) (u : ℕ) → u ≢ k → partner (set_partner s ps k o) t u ≡ partner ps t u
  set_elsewhere t u ne = ap (partner_on t) (get_or-set_other ps k u _ nobody ne)

  pub set_other_side : k < length ps → (u : ℕ) → partner (set_partner s ps k o) (other s) u ≡ partner ps (other s) u
  set_other_side l u =
      ⊎_elim
      (λ (y : u ≡ k). rw y (ap (partner_on (other s)) (get_or-set_same ps k _ nobody l) ∙ old s))
      (λ (ne : u ≢ k). set_elsewhere (other s) u ne)
      (cases_eq u k)
    where
      old : (t : Side) → partner_on (other t) (with_partner t o (get_or ps k nobody)) ≡ partner_on (other t) (get_or ps k nobody)
      old Left = refl
      old Right = refl

-- the same over tables, as the code keeps them
module _ (s : Side) (e : ℕ → ℕ) (ss : List (Option ℕ)) (ps : List Partners) (k v : ℕ) (w : Pairing e (at ss) (partner ps s) k) (ev : e k ≡ v) (lv : v < length ss) (lk : k < length ps) where
  others : (y : Option ℕ) (u : ℕ) → u ≢ e k → at (set ss v y) u ≡ at ss u
  others y u ne = get_or-set_other ss v u y None (λ z. ne (z ∙ sym ev))

  here : (y : Option ℕ) → at (set ss v y) (e k) ≡ y
  here y = ap (at (set ss v y)) ev ∙ get_or-set_same ss v y None lv

  pub pairing_met : (f : Option ℕ) → at ss v ≡ f
      → Pairing e (at (singles_after f ss v k)) (partner (partners_after s f ps k) s) (k + 1) × ((u : ℕ) → partner (partners_after s f ps k) (other s) u ≡ partner ps (other s) u)
  pairing_met None f = (
    pairing_single e (at ss) (partner ps s) k w (at (set ss v (Some k))) (partner (set_partner s ps k None) s) (others (Some k)) (ap (at ss) ev ∙ f) (here (Some k))
        (set_here s ps k None lk) (set_elsewhere s ps k None s),
    set_other_side s ps k None lk,
  )
  pairing_met (Some j) f =
      let below : j < k = (w.singles v j f).0 in
      let qs = set_partner s ps k (Some j) in
      let lj : j < length qs = simp length-set (omega arith) in
      let ne : k ≢ j = omega arith in (
        pairing_pair e (at ss) (partner ps s) k w (at (set ss v None)) (partner (set_partner s qs j (Some k)) s) (others None) j (ap (at ss) ev ∙ f) (here None)
            (set_elsewhere s qs j (Some k) s k ne ∙ set_here s ps k (Some j) lk)
            (set_here s qs j (Some k) lj)
            (λ u nk nj. set_elsewhere s qs j (Some k) s u nj ∙ set_elsewhere s ps k (Some j) s u nk),
        λ u. set_other_side s qs j (Some k) lj u ∙ set_other_side s ps k (Some j) lk u,
      )

-- the single lines of the first i lines are forgotten
abbrev pub Cleared : ℕ → ℕ → (ℕ → ℕ) → List (Option ℕ) → Type 0
Cleared i n e ss = (v k : ℕ) → at ss v ≡ Some k → (i ≤ k) × (k < n) × (e k ≡ v)

pub cleared_more : (i n : ℕ) (e : ℕ → ℕ) (ss : List (Option ℕ)) (u : ℕ) → e i ≡ u → u < length ss → Cleared i n e ss → Cleared (i + 1) n e (set ss u None)
cleared_more i n e ss u eu l h v k z =
    let m = h v k in
    let same = get_or-set_same ss u None None l in
    let other = get_or-set_other ss u v None None in
    grind arith

nothing : (o : Option ℕ) → ((k : ℕ) → o ≡ Some k → ⊥) → o ≡ None
nothing None h = refl
nothing (Some k) h = absurd (h k refl)

pub cleared_all : (i n : ℕ) (e : ℕ → ℕ) (ss : List (Option ℕ)) → n ≤ i → Cleared i n e ss → Empty ss
cleared_all i n e ss l h v = nothing (at ss v) (λ k z. let m = h v k z in omega arith)
