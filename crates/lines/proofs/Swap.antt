-- Colours of n lines by place. p and q give the two ends of each line, and a line whose colour is c or more counts as left out.
use Rattle.std.proofs.Common.{◌≡◌, ℕ, zero, suc, ◌<◌, ◌≤◌, cond, eqb, ltb, ◌≢◌, ◌⊎◌, sym, refl, ◌∙◌, inl, inr, arith}
use Rattle.std.proofs.lemmas.Bool.{cases_eq, eq-eqb, ne_eqb, cond-true, cond-false, lt-ltb, le-ltb}
use Rattle.lines.proofs.Count.{cnt, cnt_strict}

-- f, but x at place i
abbrev pub upd : (ℕ → ℕ) → ℕ → ℕ → ℕ → ℕ
upd f i x j = cond (eqb j i) x (f j)

pub upd_at : (f : ℕ → ℕ) (i x j : ℕ) → j ≡ i → upd f i x j ≡ x
upd_at f i x j e = cond-true (eqb j i) x (f j) (eq-eqb j i e)

pub upd_other : (f : ℕ → ℕ) (i x j : ℕ) → j ≢ i → upd f i x j ≡ f j
upd_other f i x j ne = cond-false (eqb j i) x (f j) (ne_eqb j i ne)

-- no line with the end v has the colour k
abbrev pub Free : (ℕ → ℕ) → (ℕ → ℕ) → ℕ → ℕ → ℕ → Type 0
Free p f n v k = (i : ℕ) → i < n → p i ≡ v → f i ≡ k → ⊥

-- different lines with one end p have different colours, where these are below c
abbrev pub Once : (ℕ → ℕ) → (ℕ → ℕ) → ℕ → ℕ → Type 0
Once p f n c = (i j : ℕ) → i < n → j < n → i ≢ j → p i ≡ p j → f i ≡ f j → c ≤ f i

abbrev pub Among : ℕ → ℕ → ℕ → Type 0
Among a b k = (k ≡ a) ⊎ (k ≡ b)

pub find_at : (p f : ℕ → ℕ) (n v k : ℕ) → ((i : ℕ) × (i < n) × (p i ≡ v) × (f i ≡ k)) ⊎ Free p f n v k
find_at p f zero v k = inr (λ i l _ _. omega arith)
find_at p f (suc n) v k =
    elim (find_at p f n v k) [
      | inl r ↦ inl (r.0, omega arith, r.2, r.3)
      | inr free ↦
          elim (cases_eq (p n) v) [
            | inl e ↦
                elim (cases_eq (f n) k) [
                  | inl e' ↦ inl (n, omega arith, e, e')
                  | inr ne ↦ inr (λ i l here is. elim (cases_eq i n) [ inl at ↦ ne (rw at at is) | inr off ↦ free i (omega arith) here is ])
                ]
            | inr ne ↦ inr (λ i l here is. elim (cases_eq i n) [ inl at ↦ ne (rw at at here) | inr off ↦ free i (omega arith) here is ])
          ]
    ]

-- g is f with the colours a and b exchanged on some lines, so that a is free at the end v
pub record Swapped (n c : ℕ) (p q f g : ℕ → ℕ) (v a b : ℕ) : Type 0 where
  pub once_p : Once p g n c
  pub once_q : Once q g n c
  pub colours : (i : ℕ) → i < n → (g i ≡ f i) ⊎ (Among a b (g i) × Among a b (f i))
  pub cleared : Free p g n v a
  pub near : (x : ℕ) → x ≢ v → Free p f n x b → Free p g n x b
  pub far : (x : ℕ) → Free q f n x a → Free q g n x a

module _ (n c : ℕ) where
  pub alive : (ℕ → ℕ) → ℕ
  alive f = cnt (λ i. ltb (f i) c) n

  -- one line less
  fewer : (f : ℕ → ℕ) (i : ℕ) → i < n → f i < c → alive (upd f i c) < alive f
  unfolding alive
  fewer f i l small =
      cnt_strict (λ j. ltb (upd f i c j) c) (λ j. ltb (f j) c) n i
      (λ j k t.
      elim (cases_eq j i) [
        | inl e ↦ rw e (lt-ltb (f i) c small)
        | inr ne ↦ rw (upd_other f i c j ne) at t
      ])
      l (le-ltb (upd f i c i) c (omega (arith, upd_at f i c i refl))) (lt-ltb (f i) c small)

  -- a line left out
  once_less : (p f : ℕ → ℕ) (i : ℕ) → Once p f n c → Once p (upd f i c) n c
  once_less p f i once j k lj lk ne e same =
      elim (cases_eq j i) [
        | inl at ↦ omega (arith, upd_at f i c j at)
        | inr off ↦
            elim (cases_eq k i) [
              | inl at ↦ omega (arith, upd_at f i c k at)
              | inr off' ↦
                  (let ej = upd_other f i c j off in
                  let ek = upd_other f i c k off' in
                  omega (arith, once j k lj lk ne e (sym ej ∙ same ∙ ek)))
            ]
      ]

  -- the line i put in with a colour that the other lines at its end lack
  pub once_more : (p f : ℕ → ℕ) (i b : ℕ)
      → ((j k : ℕ) → j < n → k < n → j ≢ i → k ≢ i → j ≢ k → p j ≡ p k → f j ≡ f k → c ≤ f j)
      → ((j : ℕ) → j < n → j ≢ i → p j ≡ p i → f j ≡ b → ⊥)
      → Once p (upd f i b) n c
  once_more p f i b once free j k lj lk ne e same =
      elim (cases_eq j i) [
        | inl at ↦
            (let off : k ≢ i = omega arith in
            absurd (free k lk off (rw at at (sym e)) (sym (upd_other f i b k off) ∙ sym same ∙ upd_at f i b j at)))
        | inr off ↦
            (let ej = upd_other f i b j off in
            elim (cases_eq k i) [
              | inl at ↦ absurd (free j lj off (rw at at e) (sym ej ∙ same ∙ upd_at f i b k at))
              | inr off' ↦ omega (arith, once j k lj lk off off' ne e (sym ej ∙ same ∙ upd_other f i b k off'), ej)
            ])
      ]

  -- what is free stays so where a line is left out, or gets another colour or stands elsewhere
  free_less : (p f : ℕ → ℕ) (i x v k : ℕ) → (p i ≡ v → x ≢ k) → Free p f n v k → Free p (upd f i x) n v k
  free_less p f i x v k other free j l here is =
      elim (cases_eq j i) [
        | inl at ↦ other (rw at at here) (sym (upd_at f i x j at) ∙ is)
        | inr off ↦ free j l here (sym (upd_other f i x j off) ∙ is)
      ]

  among_flip : (a b k m : ℕ) → m ≡ k → Among b a k → Among a b m
  among_flip a b k m s h = elim h [ inl e ↦ inr (s ∙ e) | inr e ↦ inl (s ∙ e) ]

  module _ (p q f : ℕ → ℕ) (v a b : ℕ) (small_a : a < c) (small_b : b < c) (a≢b : a ≢ b)
      (once_p : Once p f n c) (once_q : Once q f n c) (free_b : Free p f n v b)
      (i : ℕ) (li : i < n) (here : p i ≡ v) (is_a : f i ≡ a) where
    free_far : Free q (upd f i c) n (q i) a
    free_far j l at is =
        elim (cases_eq j i) [
          | inl e ↦ omega (arith, upd_at f i c j e)
          | inr off ↦
              (let ej = upd_other f i c j off in
              omega (arith, once_q j i l li off at (sym ej ∙ is ∙ sym is_a)))
        ]

    module _ (g : ℕ → ℕ) (s : Swapped n c q p (upd f i c) g (q i) b a) where
      colours_step : (j : ℕ) → j < n → (upd g i b j ≡ f j) ⊎ (Among a b (upd g i b j) × Among a b (f j))
      colours_step j l =
          elim (cases_eq j i) [
            | inl at ↦ inr (inr (upd_at g i b j at), inl (rw at is_a))
            | inr off ↦
                (let eg = upd_other g i b j off in
                let ef = upd_other f i c j off in
                elim (s.colours j l) [
                  | inl e ↦ inl (eg ∙ e ∙ ef)
                  | inr h ↦ inr (among_flip a b (g j) (upd g i b j) eg h.0, among_flip a b (upd f i c j) (f j) (sym ef) h.1)
                ])
          ]

      cleared_step : Free p (upd g i b) n v a
      cleared_step j l at is =
          elim (cases_eq j i) [
            | inl e ↦ omega (arith, upd_at g i b j e)
            | inr off ↦
                (let had : Among a b (f j) = elim (colours_step j l) [ inl e ↦ inl (sym e ∙ is) | inr h ↦ h.1 ] in
                elim had [
                  | inl e ↦ omega (arith, once_p j i l li off (at ∙ sym here) (e ∙ sym is_a))
                  | inr e ↦ free_b j l at e
                ])
          ]

      swap_step : Swapped n c p q f (upd g i b) v a b
      swap_step =
          record {
            once_p = once_more p g i b (λ j k lj lk _ _. s.once_q j k lj lk)
                (λ j l _ at. s.far v (free_less p f i c v b (λ _. omega arith) free_b) j l (at ∙ here));
            once_q = once_more q g i b (λ j k lj lk _ _. s.once_p j k lj lk) (λ j l _. s.cleared j l);
            colours = colours_step;
            cleared = cleared_step;
            near = λ x ne free. free_less p g i b x b (λ e _. ne (sym e ∙ here)) (s.far x (free_less p f i c x b (λ _. omega arith) free));
            far = λ x free. free_less q g i b x a (λ _. omega arith) (s.near x (λ e. free i li (sym e) is_a) (free_less q f i c x a (λ _. omega arith) free));
          }

  -- b is free at the end v; f can be changed so that a is free there, and a stays free at each end q
  pub swap : (m : ℕ) (p q f : ℕ → ℕ) (v a b : ℕ) → alive f ≤ m → a < c → b < c → a ≢ b → Once p f n c → Once q f n c → Free p f n v b
      → (g : ℕ → ℕ) × Swapped n c p q f g v a b
  swap zero p q f v a b few sa sb ne once_p once_q free =
      elim (find_at p f n v a) [
        | inl r ↦ absurd (omega (arith, fewer f r.0 r.1 (omega arith)))
        | inr none ↦ (f, record { once_p = once_p; once_q = once_q; colours = λ i l. inl refl; cleared = none; near = λ x _ h. h; far = λ x h. h })
      ]
  swap (suc m) p q f v a b few sa sb ne once_p once_q free =
      elim (find_at p f n v a) [
        | inl r ↦
            (let i : ℕ = r.0 in
            let less = fewer f i r.1 (omega arith) in
            let t = swap m q p (upd f i c) (q i) b a (omega arith) sb sa (omega arith) (once_less q f i once_q) (once_less p f i once_p)
            (free_far p q f v a b sa sb ne once_p once_q free i r.1 r.2 r.3) in
            (upd t.0 i b, swap_step p q f v a b sa sb ne once_p once_q free i r.1 r.2 r.3 t.0 t.1))
        | inr none ↦ (f, record { once_p = once_p; once_q = once_q; colours = λ i l. inl refl; cleared = none; near = λ x _ h. h; far = λ x h. h })
      ]
