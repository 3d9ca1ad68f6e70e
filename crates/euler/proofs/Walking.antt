-- The steps of a walk from partner to partner.
use Rattle.std.proofs.Common.{◌≡◌, ℕ, ◌<◌, ◌≤◌, Bool, true, false, cond, not, ◌≢◌, ◌⊎◌, List, length, get_or, set, is_some, Some, None, count_by, Option, sym, refl, ap, ◌∙◌, inl, inr, ⊎_elim, arith}
use Rattle.std.proofs.lemmas.List.{get_or-set_same, get_or-set_other}
use Rattle.std.proofs.lemmas.List.Sums.{sum_by-set}
use Rattle.std.proofs.lemmas.Bool.{cases_eq, true≢false, false≢true}
use Rattle.lines.specs.declared.line.Side.{Side}
use Rattle.lines.specs.declared.line.Side.TheVariants.{Left, Right}
use Rattle.lines.specs.Lines.{other}
use Rattle.euler.specs.declared.walk.Walk.{Walk}
use Rattle.euler.specs.Pairs.{at}
use Rattle.euler.specs.Walks.{Symmetric, Opposed, Settled, SettledBut, waits, waiting, PlacedBefore, Begun, Stepped, Ended}

-- what is in a half stays there
abbrev pub Stays : (ℕ → Option Bool) → (ℕ → Option Bool) → Type 0
Stays g h = (j : ℕ) (b : Bool) → g j ≡ Some b → h j ≡ Some b

sides : (t s : Side) → (t ≡ s) ⊎ (t ≡ other s)
sides Left Left = inl refl
sides Left Right = inr refl
sides Right Left = inr refl
sides Right Right = inl refl

not_other : (s : Side) → s ≡ other s → ⊥
not_other Left e = cc
not_other Right e = cc

twice : (b : Bool) → not (not b) ≡ b
twice true = refl
twice false = refl

-- the half of a line that the walk leaves on side s
abbrev pub half_on : Side → Side → Bool
half_on Left Left = false
half_on Right Right = false
half_on Left Right = true
half_on Right Left = true

half_first : (s : Side) → false ≡ half_on s s
half_first Left = refl
half_first Right = refl

half_last : (s : Side) → half_on s (other s) ≡ true
half_last Left = refl
half_last Right = refl

half_next : (f s : Side) → not (half_on f s) ≡ half_on f (other s)
half_next Left Left = refl
half_next Right Right = refl
half_next Left Right = refl
half_next Right Left = refl

pub some_is : (o : Option Bool) → is_some o ≡ true → (b : Bool) × (o ≡ Some b)
some_is None e = absurd (false≢true e)
some_is (Some b) e = (b, refl)

filled : (o : Option Bool) → o ≢ None → (b : Bool) × (o ≡ Some b)
filled None h = absurd (h refl)
filled (Some b) h = (b, refl)

-- the walk from x, first on side f, stands at line k in the half b and leaves it on side s
pub record Walking (n : ℕ) (p : Side → ℕ → Option ℕ) (g h : ℕ → Option Bool) (x : ℕ) (f : Side) (k : ℕ) (s : Side) (b : Bool) : Type 0 where
  pub within : k < n
  pub placed : h k ≡ Some b
  pub start : h x ≡ Some false
  pub loose : (t : Side) (j : ℕ) (d : Bool) → h j ≡ Some d → Opposed p h d t j ⊎ (((t ≡ s) × (j ≡ k)) ⊎ ((t ≡ other f) × (j ≡ x)))
  pub alternate : b ≡ half_on f s
  pub stays : Stays g h

module _ (n : ℕ) (p : Side → ℕ → Option ℕ) (g : ℕ → Option Bool) (x : ℕ) (f : Side) where
  pub walking_first : x < n → g x ≡ Some false → SettledBut x p g → Walking n p g g x f x f false
  walking_first l start but = record {
    within = l;
    placed = start;
    start = start;
    loose = λ t j d z. ⊎_elim (λ (y : j ≡ x). inr (⊎_elim (λ (u : t ≡ f). inl (u, y)) (λ (u : t ≡ other f). inr (u, y)) (sides t f))) (λ (ne : j ≢ x). inl (but t j d ne z)) (cases_eq j x);
    alternate = half_first f;
    stays = λ j d z. z;
  }

  module _ (symmetric : Symmetric n p) (h : ℕ → Option Bool) (k : ℕ) (s : Side) (b : Bool) (w : Walking n p g h x f k s b) where
    -- the walk ends
    opposed_here : ((q : ℕ) → p s k ≡ Some q → h q ≢ None) → Opposed p h b s k
    opposed_here met q pq =
        let m = symmetric s k q pq in
        let d = filled (h q) (met q pq) in
        let loose = w.loose s q d.0 d.1 in
        let last = half_last f in
        let again = twice d.0 in
        grind arith

    pub walked : ((q : ℕ) → p s k ≡ Some q → h q ≢ None) → SettledBut x p h × Opposed p h false f x
    walked met =
        let here = opposed_here met in (
          (λ t j d ne z q pq. let loose = w.loose t j d z in let hq = here q in grind arith),
          (λ q pq. let loose = w.loose f x false w.start in let hq = here q in let no = not_other f in grind arith),
        )

    -- the partner q is put into the other half
    pub walking_more : (d : ℕ → Option Bool) (q : ℕ) → p s k ≡ Some q → h q ≡ None → d q ≡ Some (not b) → ((j : ℕ) → j ≢ q → d j ≡ h j) → Walking n p g d x f q (other s) (not b)
    walking_more d q pq free new old =
        let m = symmetric s k q pq in
        let kept : (j : ℕ) (a : Bool) → h j ≡ Some a → d j ≡ Some a = λ j a z. let oj = old j in grind arith in
        record {
          within = m.0;
          placed = new;
          start = kept x false w.start;
          loose = λ t j a z.
              ⊎_elim
              (λ (y : j ≡ q). ⊎_elim (λ (u : t ≡ s). inl (λ r pr. let back = kept k b w.placed in let again = twice b in grind arith)) (λ (u : t ≡ other s). inr (inl (u, y))) (sides t s))
              (λ (ne : j ≢ q).
              ⊎_elim
              (λ (o : Opposed p h a t j). inl (λ r pr. kept r (not a) (o r pr)))
              (⊎_elim (λ (u : (t ≡ s) × (j ≡ k)). inl (λ r pr. let oj = old j ne in let pl = w.placed in grind arith)) (λ (u : (t ≡ other f) × (j ≡ x)). inr (inr u)))
              (w.loose t j a (sym (old j ne) ∙ z)))
              (cases_eq j q);
          alternate = ap not w.alternate ∙ half_next f s;
          stays = λ j a z. kept j a (w.stays j a z);
        }

-- how many lines are in no half
abbrev pub unplaced : List (Option Bool) → ℕ
unplaced hs = count_by (λ o. not (is_some o)) hs

pub fewer : (hs : List (Option Bool)) (k : ℕ) (b : Bool) → k < length hs → at hs k ≡ None → unplaced (set hs k (Some b)) < unplaced hs
fewer hs k b l h =
    let u : Option Bool → ℕ = λ o. cond (not (is_some o)) 1 0 in
    let e : u (get_or hs k None) ≡ 1 = ap u h in
    omega (arith, sum_by-set u hs k (Some b) None l)

-- a line that is put into a half before its partners
module _ (p : Side → ℕ → Option ℕ) (x : ℕ) where
  pub begun : (h d : ℕ → Option Bool) → h x ≡ None → ((j : ℕ) → j ≢ x → d j ≡ h j) → Settled p h → SettledBut x p d
  begun h d free old all t j b ne z q pq = let s = all t j b in let oj = old j in let oq = old q in grind arith

pub unset : (o : Option Bool) → is_some o ≡ false → o ≡ None
unset None e = refl
unset (Some b) e = absurd (true≢false e)

pub placed_stays : (gs hs : List (Option Bool)) (x : ℕ) → Stays (at gs) (at hs) → PlacedBefore x gs → PlacedBefore x hs
placed_stays gs hs x stays before k l = let b = some_is (at gs k) (before k l) in ap is_some (stays k b.0 b.1)

-- a partner that does not wait is in the half true
waits_stays : (a b : Option Bool) → ((d : Bool) → a ≡ Some d → b ≡ Some d) → waits b ≤ waits a
waits_stays a b h = let t = h true in let f = h false in grind arith

waits_none : (o : Option Bool) → waits o ≡ 0 → o ≡ Some true
waits_none o e = grind arith

module _ (p : Side → ℕ → Option ℕ) (t : Side) (x : ℕ) where
  pub waiting_none : (h : ℕ → Option Bool) → Opposed p h false t x → waiting h (p t x) ≡ 0
  waiting_none h o = at_partner (p t x) o
    where
      at_partner : (m : Option ℕ) → ((q : ℕ) → m ≡ Some q → h q ≡ Some true) → waiting h m ≡ 0
      at_partner None o = refl
      at_partner (Some q) o = ap waits (o q refl)

  pub waiting_stays : (g h : ℕ → Option Bool) → Stays g h → waiting h (p t x) ≤ waiting g (p t x)
  waiting_stays g h stays = at_partner (p t x)
    where
      at_partner : (m : Option ℕ) → waiting h m ≤ waiting g m
      at_partner None = omega arith
      at_partner (Some q) = waits_stays (g q) (h q) (λ d. stays q d)

  opposed_from : (h : ℕ → Option Bool) → waiting h (p t x) ≡ 0 → Opposed p h false t x
  opposed_from h e q z = waits_none (h q) (ap (waiting h) (sym z) ∙ e)

-- the same over a table, as the code keeps it
module _ (n : ℕ) (p : Side → ℕ → Option ℕ) (gs hs : List (Option Bool)) (x : ℕ) (f : Side) (walk : Walk) (symmetric : Symmetric n p) (long : length hs ≡ n)
    (w : Walking n p (at gs) (at hs) x f walk.line walk.side walk.half) where
  pub stepped : (next : Walk) (q : Option ℕ) (ks : List (Option Bool)) → q ≡ p walk.side walk.line → Stepped q walk next hs ks → Walking n p (at gs) (at ks) x f next.line next.side next.half
  stepped next q ks is st =
      let to : p walk.side walk.line ≡ Some next.line = sym is ∙ st.to in
      let l : next.line < length hs = omega (arith, (symmetric walk.side walk.line next.line to).0) in
      rw (st.half, st.side, st.put)
      (walking_more n p (at gs) x f symmetric (at hs) walk.line walk.side walk.half w (at (set hs next.line (Some (not walk.half)))) next.line to st.fresh
      (get_or-set_same hs next.line (Some (not walk.half)) None l) (λ j ne. get_or-set_other hs next.line j (Some (not walk.half)) None ne))

  pub finished : (q : Option ℕ) (ks : List (Option Bool)) → Begun x p gs → q ≡ p walk.side walk.line → Ended q hs ks → Begun x p ks × (waiting (at ks) (p f x) ≡ 0)
  finished q ks begun is en =
      let r = walked n p (at gs) x f symmetric (at hs) walk.line walk.side walk.half w (λ j z. en.met j (is ∙ z)) in
      rw en.kept (
        record { start = w.stays x false begun.start; settled = r.0; before = placed_stays gs hs x w.stays begun.before },
        waiting_none p f x (at hs) r.1,
      )

pub closed : (p : Side → ℕ → Option ℕ) (x : ℕ) (g : ℕ → Option Bool) → g x ≡ Some false → SettledBut x p g → waiting g (p Left x) ≡ 0 → waiting g (p Right x) ≡ 0 → Settled p g
closed p x g start but left right t j b z =
    λ q pq. let here = at_side t q in let other = but t j b in grind arith
  where
    at_side : (t : Side) → Opposed p g false t x
    at_side Left = opposed_from p Left x g left
    at_side Right = opposed_from p Right x g right
