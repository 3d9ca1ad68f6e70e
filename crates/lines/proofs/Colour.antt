-- König's theorem for n lines whose ends are p i and q i at the place i.
use Rattle.std.proofs.Common.{ℕ, zero, suc, ◌<◌, ◌≤◌, ◌&&◌, eqb, ltb, ◌⊎◌, ◌∙◌, inl, inr, arith}
use Rattle.std.proofs.lemmas.Bool.{cases_eq, and_parts}
use Rattle.std.proofs.lemmas.Bool.Decides.{nat_tests}
use Rattle.lines.proofs.Count.{cnt, cnt_mono, cnt_strict}
use Rattle.lines.proofs.Swap.{upd, upd_at, upd_other, Free, Once, find_at, alive, once_more, swap}

-- how many lines have the end v
abbrev pub deg : (ℕ → ℕ) → ℕ → ℕ → ℕ
deg p n v = cnt (λ i. eqb (p i) v) n

-- a colour is free at v, or each of the c is used there
pick : (p f : ℕ → ℕ) (n v c : ℕ) → ((k : ℕ) × (k < c) × Free p f n v k) ⊎ (c ≤ cnt (λ i. eqb (p i) v && ltb (f i) c) n)
pick p f n v zero = inr (omega arith)
pick p f n v (suc c) =
    elim (pick p f n v c) [
      | inl r ↦ inl (r.0, omega arith, r.2)
      | inr many ↦
          elim (find_at p f n v c) [
            | inl r ↦
                (let more : cnt (λ i. eqb (p i) v && ltb (f i) c) n < cnt (λ i. eqb (p i) v && ltb (f i) (suc c)) n
                = cnt_strict (λ i. eqb (p i) v && ltb (f i) c) (λ i. eqb (p i) v && ltb (f i) (suc c)) n r.0
                (λ j _ t. grind (arith, nat_tests)) r.1 (grind (arith, nat_tests)) (grind (arith, nat_tests)) in
                inr (omega arith))
            | inr none ↦ inl (c, omega arith, none)
          ]
    ]

free_colour : (p f : ℕ → ℕ) (n v c : ℕ) → deg p n v < c → (k : ℕ) × (k < c) × Free p f n v k
free_colour p f n v c few =
    elim (pick p f n v c) [
      | inl r ↦ r
      | inr many ↦
          (let more : cnt (λ i. eqb (p i) v && ltb (f i) c) n ≤ deg p n v
          = cnt_mono (λ i. eqb (p i) v && ltb (f i) c) (λ i. eqb (p i) v) n (λ i _ t. (and_parts (eqb (p i) v) (ltb (f i) c) t).0) in
          absurd (omega arith))
    ]

-- colours of n lines, below c, that differ at each end
pub record Coloured (c : ℕ) (p q : ℕ → ℕ) (n : ℕ) (f : ℕ → ℕ) : Type 0 where
  pub below : (i : ℕ) → i < n → f i < c
  pub once_p : Once p f n c
  pub once_q : Once q f n c

-- one line more, with a colour that is free at both ends
add_line : (c : ℕ) (p q : ℕ → ℕ) (n : ℕ) (f : ℕ → ℕ) (a : ℕ) → a < c → Coloured c p q n f → Free p f n (p n) a → Free q f n (q n) a → Coloured c p q (suc n) (upd f n a)
add_line c p q n f a small h free-p free-q =
    record {
      below = λ i l. elim (cases_eq i n) [ inl at ↦ omega (arith, upd_at f n a i at) | inr off ↦ omega (arith, upd_other f n a i off, h.below i (omega arith)) ];
      once_p = once_more (suc n) c p f n a (λ j k lj lk nj nk. h.once_p j k (omega arith) (omega arith)) (λ j l ne. free-p j (omega arith));
      once_q = once_more (suc n) c q f n a (λ j k lj lk nj nk. h.once_q j k (omega arith) (omega arith)) (λ j l ne. free-q j (omega arith));
    }

pub colour : (c : ℕ) (p q : ℕ → ℕ) (n : ℕ) → ((v : ℕ) → deg p n v ≤ c) → ((v : ℕ) → deg q n v ≤ c) → (f : ℕ → ℕ) × Coloured c p q n f
colour c p q zero hp hq = (λ _. 0, record { below = λ i l. absurd (omega arith); once_p = λ i j l. absurd (omega arith); once_q = λ i j l. absurd (omega arith) })
colour c p q (suc n) hp hq =
    let t = colour c p q n (λ v. omega (arith, hp v)) (λ v. omega (arith, hq v)) in
    let f : ℕ → ℕ = t.0 in
    let h : Coloured c p q n f = t.1 in
    let room_p : deg p n (p n) < c = grind (arith, nat_tests, hp (p n)) in
    let room_q : deg q n (q n) < c = grind (arith, nat_tests, hq (q n)) in
    let ra = free_colour p f n (p n) c room_p in
    let rb = free_colour q f n (q n) c room_q in
    let a : ℕ = ra.0 in
    elim (find_at q f n (q n) a) [
      | inr free ↦ (upd f n a, add_line c p q n f a ra.1 h ra.2 free)
      | inl r ↦
          (let s = swap n c (alive n c f) q p f (q n) a rb.0 (omega arith) ra.1 rb.1 (λ e. rb.2 r.0 r.1 r.2 (r.3 ∙ e)) h.once_q h.once_p rb.2 in
          let h' : Coloured c p q n s.0 = record { below = λ i l. omega (arith, h.below i l, s.1.colours i l, ra.1, rb.1); once_p = s.1.once_q; once_q = s.1.once_p } in
          (upd s.0 n a, add_line c p q n s.0 a ra.1 h' (s.1.far (p n) ra.2) s.1.cleared))
    ]
