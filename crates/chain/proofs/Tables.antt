-- The table of lines at the ends after one line's colour is taken away or given.
use Rattle.std.proofs.Common.{◌≡◌, ℕ, ◌<◌, ◌⊎◌, Some, None, Option, sym, ap, ◌∙◌, inl, inr, ⊎_elim}
use Rattle.std.proofs.lemmas.Bool.{cases_eq}
use Rattle.lines.specs.declared.line.Side.{Side}
use Rattle.lines.specs.declared.line.Side.TheVariants.{Left, Right}
use Rattle.chain.specs.Exchanges.{Ends, Colours, Free, Apart, Painted, Changed, Agrees}
use Rattle.chain.proofs.Paths.{none_some, none_or_some, some_same}

pub agrees_apart : (e : Ends) (c : Colours) (t : Side → ℕ → ℕ → Option ℕ) → Agrees e c t → Apart e c
agrees_apart e c t w s i j a ci cj ee =
    some_same (t s (e s j) a) i j (ap (λ v. t s v a) (sym ee) ∙ w.slot s i a ci) (w.slot s j a cj)

-- u is t with y at both ends of k, under the colour a
pub record Both (e : Ends) (t u : Side → ℕ → ℕ → Option ℕ) (k a : ℕ) (y : Option ℕ) : Type 0 where
  pub new : (s : Side) → u s (e s k) a ≡ y
  pub old : (s : Side) (v b : ℕ) → v < 512 → (v ≡ e s k → b ≡ a → ⊥) → u s v b ≡ t s v b

pub both : (e : Ends) (t u v : Side → ℕ → ℕ → Option ℕ) (k a : ℕ) (y : Option ℕ) → e Left k < 512 → Changed t u Left (e Left k) a y → Changed u v Right (e Right k) a y → Both e t v k a y
both e t u v k a y ll p q = record { new = λ s. new s; old = λ s. old s }
  where
    sides : Left ≡ Right → ⊥
    sides e = cc

    new : (s : Side) → v s (e s k) a ≡ y
    new Left = q.old Left (e Left k) a ll (λ z m n. sides z) ∙ p.new
    new Right = q.new

    old : (s : Side) (x b : ℕ) → x < 512 → (x ≡ e s k → b ≡ a → ⊥) → v s x b ≡ t s x b
    old Left x b lx off = q.old Left x b lx (λ z m n. sides z) ∙ p.old Left x b lx (λ z. off)
    old Right x b lx off = q.old Right x b lx (λ z. off) ∙ p.old Right x b lx (λ z m n. sides (sym z))

either : (v y x z : ℕ) → ((v ≡ y) × (x ≡ z)) ⊎ (v ≡ y → x ≡ z → ⊥)
either v y x z = ⊎_elim (λ (p : v ≡ y). ⊎_elim (λ (q : x ≡ z). inl (p, q)) (λ (q : x ≡ z → ⊥). inr (λ r. q)) (cases_eq x z)) (λ (p : v ≡ y → ⊥). inr (λ r s. p r)) (cases_eq v y)

-- t and u stand for the table before and after
module _ (e : Ends) (c d : Colours) (t u : Side → ℕ → ℕ → Option ℕ) (k a : ℕ) (w : Agrees e c t) (inside : (s : Side) (j b : ℕ) → c j ≡ Some b → e s j < 512) where
  pub lifted : c k ≡ Some a → Both e t u k a None → Painted c d k None → Agrees e d u
  lifted has b p = record {
    slot = λ s j x dj.
        let nk : j ≡ k → ⊥ = λ z. none_some (d j) x (ap d z ∙ p.new) dj in
        let cj : c j ≡ Some x = sym (p.old j nk) ∙ dj in
        b.old s (e s j) x (inside s j x cj) (λ ee xx. nk (agrees_apart e c t w s j k x cj (has ∙ ap Some (sym xx)) ee)) ∙ w.slot s j x cj;
    line = λ s v x j lv lx near.
        let off : v ≡ e s k → x ≡ a → ⊥ = λ zv zx. none_some (u s v x) j (ap (λ y. u s y x) zv ∙ ap (λ y. u s (e s k) y) zx ∙ b.new s) near in
        let was = w.line s v x j lv lx (sym (b.old s v x lv off) ∙ near) in
        let nk : j ≡ k → ⊥ = λ z. off (sym was.0 ∙ ap (e s) z) (some_same (c j) x a was.1 (ap c z ∙ has)) in
        (was.0, p.old j nk ∙ was.1);
  }

  pub laid : c k ≡ None → ((s : Side) → Free e c s (e s k) a) → Both e t u k a (Some k) → Painted c d k (Some a) → Agrees e d u
  laid bare free b p = record {
    slot = λ s j x dj.
        ⊎_elim
        (λ (z : j ≡ k).
        let xa : x ≡ a = some_same (d j) x a dj (ap d z ∙ p.new) in
        ap (λ y. u s (e s y) x) z ∙ ap (λ y. u s (e s k) y) xa ∙ b.new s ∙ ap Some (sym z))
        (λ (nk : j ≡ k → ⊥).
        let cj : c j ≡ Some x = sym (p.old j nk) ∙ dj in
        b.old s (e s j) x (inside s j x cj) (λ ee xx. free s j ee (cj ∙ ap Some xx)) ∙ w.slot s j x cj)
        (cases_eq j k);
    line = λ s v x j lv lx near.
        ⊎_elim
        (λ (z : (v ≡ e s k) × (x ≡ a)).
        let here : u s v x ≡ Some k = ap (λ y. u s y x) z.0 ∙ ap (λ y. u s (e s k) y) z.1 ∙ b.new s in
        let jk : j ≡ k = some_same (u s v x) j k near here in
        (ap (e s) jk ∙ sym z.0, ap d jk ∙ p.new ∙ ap Some (sym z.1)))
        (λ (off : v ≡ e s k → x ≡ a → ⊥).
        let was = w.line s v x j lv lx (sym (b.old s v x lv off) ∙ near) in
        let nk : j ≡ k → ⊥ = λ z. none_some (c j) x (ap c z ∙ bare) was.1 in
        (was.0, p.old j nk ∙ was.1))
        (either v (e s k) x a);
  }

-- a colour that is free at an end is spare in the table there: the table has no line with it
pub free_spare : (e : Ends) (c : Colours) (t : Side → ℕ → ℕ → Option ℕ) → Agrees e c t → (s : Side) (v b : ℕ) → v < 512 → b < 64 → Free e c s v b → t s v b ≡ None
free_spare e c t w s v b lv lb free =
    ⊎_elim (λ (z : t s v b ≡ None). z) (λ q. let was = w.line s v b q.0 lv lb q.1 in absurd (free q.0 was.0 was.1)) (none_or_some (t s v b))

-- and where the table has no line the colour is free
pub spare_free : (e : Ends) (c : Colours) (t : Side → ℕ → ℕ → Option ℕ) → Agrees e c t → (s : Side) (v b : ℕ) → t s v b ≡ None → Free e c s v b
spare_free e c t w s v b spare k ek ck = none_some (t s v b) k spare (ap (λ x. t s x b) (sym ek) ∙ w.slot s k b ck)
