-- The steps of an exchange of two colours along a path.
use Rattle.std.proofs.Common.{◌≡◌, ℕ, ◌<◌, Bool, false, eqb, ◌⊎◌, ◌≢◌, Some, None, Option, sym, refl, ap, ◌∙◌, inl, inr, ⊎_elim}
use Rattle.std.proofs.lemmas.Bool.{cases_eq, eq-eqb, eqb-true, false≢true}
use Rattle.lines.specs.declared.line.Side.{Side}
use Rattle.lines.specs.declared.line.Side.TheVariants.{Left, Right}
use Rattle.lines.specs.Lines.{other}
use Rattle.lines.proofs.Count.{cnt, cnt_strict}
use Rattle.chain.specs.Exchanges.{Ends, Colours, Free, Apart, Among, Swap, Painted, Passed}

pub none_some : {A : Type 0} (o : Option A) (a : A) → o ≡ None → o ≡ Some a → ⊥
none_some o a p q = cc

pub none_or_some : {A : Type 0} (o : Option A) → (o ≡ None) ⊎ ((a : A) × (o ≡ Some a))
none_or_some (Some a) = inr (a, refl)
none_or_some None = inl refl

pub some_same : (o : Option ℕ) (a b : ℕ) → o ≡ Some a → o ≡ Some b → a ≡ b
some_same o a b p q = cc

-- the line k, which had the colour a, has none now
module _ (e : Ends) (c d : Colours) (k a : ℕ) (has : c k ≡ Some a) (p : Painted c d k None) where
  pub bare_free : (t : Side) (x y : ℕ) → Free e c t x y → Free e d t x y
  bare_free t x y f j ej dj =
      ⊎_elim
      (λ (q : j ≡ k). none_some (d j) y (ap d q ∙ p.new) dj)
      (λ (ne : j ≡ k → ⊥). f j ej (sym (p.old j ne) ∙ dj))
      (cases_eq j k)

  pub bare_here : Apart e c → (t : Side) → Free e d t (e t k) a
  bare_here apart t j ej dj =
      ⊎_elim
      (λ (q : j ≡ k). none_some (d j) a (ap d q ∙ p.new) dj)
      (λ (ne : j ≡ k → ⊥). ne (apart t j k a (sym (p.old j ne) ∙ dj) has ej))
      (cases_eq j k)

-- whether both are the same colour
abbrev pub same_colour : Option ℕ → Option ℕ → Bool
same_colour (Some a) (Some b) = eqb a b
same_colour (Some a) None = false
same_colour None o = false

same_none : (o : Option ℕ) → same_colour o None ≡ false
same_none (Some a) = refl
same_none None = refl

other_side : (s : Side) → s ≡ other s → ⊥
other_side Left z = cc
other_side Right z = cc

pub other_twice : (s : Side) → other (other s) ≡ s
other_twice Left = refl
other_twice Right = refl

-- a colour that is free at both ends of the line k
pub free_both : (e : Ends) (c : Colours) (k a : ℕ) (t : Side) → Free e c t (e t k) a → Free e c (other t) (e (other t) k) a → (r : Side) → Free e c r (e r k) a
free_both e c k a Left f g Left = f
free_both e c k a Left f g Right = g
free_both e c k a Right f g Left = g
free_both e c k a Right f g Right = f

-- a line with its near end on side s loses a and gets b, one with its near end on the other side loses b and gets a: t is
-- the side of the near end and u that of the far one, x the old colour and y the new one
abbrev pub Roles : Side → ℕ → ℕ → Side → Side → ℕ → ℕ → Type 0
Roles s a b t u x y = ((t ≡ s) × (u ≡ other s) × (x ≡ a) × (y ≡ b)) ⊎ ((t ≡ other s) × (u ≡ s) × (x ≡ b) × (y ≡ a))

-- the exchange of a and b from the end v on side s, when the line k is in hand: c before, d now
pub record Carried (e : Ends) (c d : Colours) (s : Side) (v a b k : ℕ) (t u : Side) (x y : ℕ) : Type 0 where
  pub roles : Roles s a b t u x y
  pub differ : x ≢ y
  pub had : c k ≡ Some x
  pub bare : d k ≡ None
  pub near : Free e d t (e t k) y
  pub far : Free e d u (e u k) x
  pub frees : Free e d s v a
  pub here : (z : ℕ) → (z ≢ v) → Free e c s z b → Free e d s z b
  pub there : (z : ℕ) → Free e c (other s) z a → Free e d (other s) z a
  pub kept : (j : ℕ) → (j ≢ k) → (d j ≡ c j) ⊎ (Among a b (c j) × Among a b (d j))
  -- the path began at its near end, or a line that had y there led to it
  pub led : ((t ≡ s) × (e t k ≡ v)) ⊎ ((j : ℕ) × (e t j ≡ e t k) × (c j ≡ Some y))

-- the line k, at which the path begins, is in hand
pub carried_first : (e : Ends) (c d : Colours) (s : Side) (a b k : ℕ) → c k ≡ Some a → Painted c d k None → Apart e c → Free e c s (e s k) b → Carried e c d s (e s k) a b k s (other s) a b
carried_first e c d s a b k has p apart free = record {
  roles = inl (refl, refl, refl, refl);
  differ = λ z. free k refl (has ∙ ap Some z);
  had = has;
  bare = p.new;
  near = bare_free e c d k a has p s (e s k) b free;
  far = bare_here e c d k a has p apart (other s);
  frees = bare_here e c d k a has p apart s;
  here = λ z ne. bare_free e c d k a has p s z b;
  there = λ z. bare_free e c d k a has p (other s) z a;
  kept = λ j ne. inl (p.old j ne);
  led = inl (refl, refl);
}

module _ {e : Ends} {c d : Colours} {s : Side} {v a b k : ℕ} {t u : Side} {x y : ℕ} (h : Carried e c d s v a b k t u x y) where
  old_among : Among a b (Some x)
  old_among = ⊎_elim (λ r. inl (ap Some r.2)) (λ r. inr (ap Some r.2)) h.roles

  new_among : Among a b (Some y)
  new_among = ⊎_elim (λ r. inr (ap Some r.3)) (λ r. inl (ap Some r.3)) h.roles

  -- the colours of the path are the old and the new one
  either_colour : (o : Option ℕ) → Among a b o → (o ≡ Some x) ⊎ (o ≡ Some y)
  either_colour o m =
      ⊎_elim
      (λ r. ⊎_elim (λ (z : o ≡ Some a). inl (z ∙ ap Some (sym r.2))) (λ (z : o ≡ Some b). inr (z ∙ ap Some (sym r.3))) m)
      (λ r. ⊎_elim (λ (z : o ≡ Some a). inr (z ∙ ap Some (sym r.3))) (λ (z : o ≡ Some b). inl (z ∙ ap Some (sym r.2))) m)
      h.roles

  -- the new colour tells the sides
  new_here : y ≡ b → t ≡ s
  new_here z = ⊎_elim (λ r. r.0) (λ r. absurd (h.differ (r.2 ∙ sym z))) h.roles

  new_there : y ≡ a → (t ≡ other s) × (u ≡ s) × (x ≡ b)
  new_there z = ⊎_elim (λ r. absurd (h.differ (r.2 ∙ sym z))) (λ r. (r.0, r.1, r.2)) h.roles

  -- the line k gets its new colour, and perhaps others lose theirs
  module _ (f : Colours) (free : Free e c s v b) (new : f k ≡ Some y) (old : (j : ℕ) → j ≢ k → (f j ≡ None) ⊎ (f j ≡ d j)) where
    -- a line with a colour had it, or is the line k
    coloured_or : (j z : ℕ) → f j ≡ Some z → ((j ≡ k) × (y ≡ z)) ⊎ (d j ≡ Some z)
    coloured_or j z fj =
        ⊎_elim
        (λ (q : j ≡ k). inl (q, some_same (f j) y z (ap f q ∙ new) fj))
        (λ (ne : j ≡ k → ⊥). ⊎_elim (λ (n : f j ≡ None). absurd (none_some (f j) z n fj)) (λ (q : f j ≡ d j). inr (sym q ∙ fj)) (old j ne))
        (cases_eq j k)

    given_frees : Free e f s v a
    given_frees j ej fj =
        ⊎_elim
        (λ q. let r = new_there q.1 in free k (ap (e s) (sym q.0) ∙ ej) (h.had ∙ ap Some r.2))
        (h.frees j ej)
        (coloured_or j a fj)

    given_here : (z : ℕ) → (z ≢ v) → Free e c s z b → Free e f s z b
    given_here z ne g j ej fj =
        ⊎_elim
        (λ q.
        let r : t ≡ s = new_here q.1 in
        let at_k : e t k ≡ z = ap (λ w. e w k) r ∙ ap (e s) (sym q.0) ∙ ej in
        ⊎_elim (λ l. ne (sym at_k ∙ l.1)) (λ l. g l.0 (ap (λ w. e w l.0) (sym r) ∙ l.1 ∙ at_k) (l.2 ∙ ap Some q.1)) h.led)
        (h.here z ne g j ej)
        (coloured_or j b fj)

    given_there : (z : ℕ) → Free e c (other s) z a → Free e f (other s) z a
    given_there z g j ej fj =
        ⊎_elim
        (λ q.
        let r : t ≡ other s = (new_there q.1).0 in
        let at_k : e t k ≡ z = ap (λ w. e w k) r ∙ ap (e (other s)) (sym q.0) ∙ ej in
        ⊎_elim (λ l. other_side s (sym l.0 ∙ r)) (λ l. g l.0 (ap (λ w. e w l.0) (sym r) ∙ l.1 ∙ at_k) (l.2 ∙ ap Some q.1)) h.led)
        (h.there z g j ej)
        (coloured_or j a fj)

  -- the path ends at the line k
  pub carried_last : (f : Colours) → Free e c s v b → Painted d f k (Some y) → Swap e c f s v a b
  carried_last f free p =
      let old : (j : ℕ) → j ≢ k → (f j ≡ None) ⊎ (f j ≡ d j) = λ j ne. inr (p.old j ne) in
      record {
        frees = given_frees f free p.new old;
        here = given_here f free p.new old;
        there = given_there f free p.new old;
        kept = λ j.
            ⊎_elim
            (λ (q : j ≡ k). rw q (inr (rw h.had old_among, rw p.new new_among)))
            (λ (ne : j ≡ k → ⊥). rw (p.old j ne) (h.kept j ne))
            (cases_eq j k);
      }

  -- the path goes on to the line j
  module _ (f : Colours) (j : ℕ) (apart : Apart e c) (apart_now : Apart e d) (has : d j ≡ Some y) (meets : e u j ≡ e u k) (p : Passed d f k j y) where
    not_same : j ≢ k
    not_same z = none_some (d j) y (ap d z ∙ h.bare) has

    -- it has the colour that it had at first
    had_new : c j ≡ Some y
    had_new =
        ⊎_elim
        (λ (z : d j ≡ c j). sym z ∙ has)
        (λ m. ⊎_elim (λ (z : c j ≡ Some x). absurd (not_same (apart u j k x z h.had meets))) (λ (z : c j ≡ Some y). z) (either_colour (c j) m.0))
        (h.kept j not_same)

    old_colour : (i : ℕ) → i ≢ k → (f i ≡ None) ⊎ (f i ≡ d i)
    old_colour i ne = ⊎_elim (λ (z : i ≡ j). inl (ap f z ∙ p.gone)) (λ (nj : i ≡ j → ⊥). inr (p.old i ne nj)) (cases_eq i j)

    pub carried_next : Free e c s v b → Carried e c f s v a b j u t y x
    carried_next free = record {
      roles = ⊎_elim (λ r. inr (r.1, r.0, r.3, r.2)) (λ r. inl (r.1, r.0, r.3, r.2)) h.roles;
      differ = λ z. h.differ (sym z);
      had = had_new;
      bare = p.gone;
      near = λ i ei fi. ⊎_elim (λ q. h.differ (sym q.1)) (h.far i (ei ∙ meets)) (coloured_or f free p.new old_colour i x fi);
      far = λ i ei fi.
          ⊎_elim
          (λ q. h.near j (sym ei ∙ ap (e t) q.0) has)
          (λ (di : d i ≡ Some y). let same : i ≡ j = apart_now t i j y di has ei in none_some (f i) y (ap f same ∙ p.gone) fi)
          (coloured_or f free p.new old_colour i y fi);
      frees = given_frees f free p.new old_colour;
      here = given_here f free p.new old_colour;
      there = given_there f free p.new old_colour;
      kept = λ i ne.
          ⊎_elim
          (λ (q : i ≡ k). rw q (inr (rw h.had old_among, rw p.new new_among)))
          (λ (nk : i ≡ k → ⊥). rw (p.old i nk ne) (h.kept i nk))
          (cases_eq i k);
      led = inr (k, sym meets, h.had);
    }

    -- with each step one line less has the colour that it had at first
    module _ (n : ℕ) (within : j < n) where
      pub fewer_same : cnt (λ i. same_colour (c i) (f i)) n < cnt (λ i. same_colour (c i) (d i)) n
      fewer_same =
          cnt_strict (λ i. same_colour (c i) (f i)) (λ i. same_colour (c i) (d i)) n j
          (λ i l z.
          ⊎_elim
          (λ (q : i ≡ k). absurd (h.differ (eqb-true x y (sym (ap (λ o. same_colour o (Some y)) (ap c q ∙ h.had)) ∙ sym (ap (same_colour (c i)) (ap f q ∙ p.new)) ∙ z))))
          (λ (ne : i ≡ k → ⊥).
          ⊎_elim
          (λ (o : f i ≡ None). absurd (false≢true (sym (same_none (c i)) ∙ sym (ap (same_colour (c i)) o) ∙ z)))
          (λ (o : f i ≡ d i). sym (ap (same_colour (c i)) o) ∙ z)
          (old_colour i ne))
          (cases_eq i k))
          within
          (ap (same_colour (c j)) p.gone ∙ same_none (c j))
          (ap (same_colour (c j)) has ∙ ap (λ o. same_colour o (Some y)) had_new ∙ eq-eqb y y refl)

-- nothing to exchange
pub swap_none : (e : Ends) (c : Colours) (s : Side) (v a b : ℕ) → Free e c s v a → Swap e c c s v a b
swap_none e c s v a b free = record { frees = free; here = λ x ne f. f; there = λ x f. f; kept = λ k. inl refl }

-- a line without a colour keeps none
pub swap_bare : (e : Ends) (c d : Colours) (s : Side) (v a b k : ℕ) → Swap e c d s v a b → c k ≡ None → d k ≡ None
swap_bare e c d s v a b k r bare =
    ⊎_elim
    (λ (z : d k ≡ c k). z ∙ bare)
    (λ m. absurd (⊎_elim (λ (z : c k ≡ Some a). none_some (c k) a bare z) (λ (z : c k ≡ Some b). none_some (c k) b bare z) m.0))
    (r.kept k)

-- a colour that is free at the left end of the line i, after the exchange at its right end
pub free_after : (e : Ends) (c d : Colours) (i a b : ℕ) → Free e c Left (e Left i) a → Swap e c d Right (e Right i) a b → (t : Side) → Free e d t (e t i) a
free_after e c d i a b free r Left = r.there (e Left i) free
free_after e c d i a b free r Right = r.frees
