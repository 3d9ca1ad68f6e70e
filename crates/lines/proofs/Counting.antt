-- One line more and one line less in the counts, and the lowest end with more than c lines.
use Rattle.std.proofs.Common.{◌≡◌, ℕ, zero, suc, ◌+◌, ◌<◌, ◌≤◌, Bool, true, false, cond, eqb, ltb, leb, ◌≢◌, ◌⊎◌, List, length, get_or, take, drop, set, Some, None, Option, sym, refl, ap, ◌∙◌, inl, inr, ⊎_elim, arith}
use Rattle.std.proofs.lemmas.List.Sums.{sum_by_more, sum_by-drop_more, count_by-le-length}
use Rattle.std.proofs.lemmas.List.{length-take-le, drop_all, get_or-set_same, get_or-set_other}
use Rattle.std.proofs.lemmas.Bool.{cases_eq, cases_lt, cases_Bool, cond-true, cond-false, lt-ltb, le-ltb, ltb-true, ltb-false, le-leb, lt-leb, eq-eqb, ne_eqb}
use Rattle.lines.specs.declared.line.Line.{Line}
use Rattle.lines.specs.declared.line.Side.{Side}
use Rattle.lines.specs.Lines.{ends, end_of, on, end_at, degree, Inside}
use Rattle.lines.specs.Refusals.{lowest_above, crowded}
use Rattle.lines.specs.Degrees.{Counts, Cleared, lower_of}
use Rattle.lines.proofs.Places.{end_line, length_ends}
use Rattle.lines.proofs.Accepted.{is_lowest, none_above}

-- what the lowest number above c is
pub found : (f : ℕ → ℕ) (c v n : ℕ)
    → ((lowest_above f c v n ≡ None) × ((u : ℕ) → v ≤ u → u < v + n → f u ≤ c))
    ⊎ ((w : ℕ) × (lowest_above f c v n ≡ Some w) × (v ≤ w) × (w < v + n) × (c < f w) × ((u : ℕ) → v ≤ u → u < w → f u ≤ c))
unfolding lowest_above
found f c v zero = inl (refl, λ u p q. absurd (omega arith))
found f c v (suc n) =
    ⊎_elim
    (λ (z : ltb c (f v) ≡ true). inr (v, cond-true (ltb c (f v)) (Some v) (lowest_above f c (v + 1) n) z, omega arith, omega arith, ltb-true c (f v) z, λ u p q. absurd (omega arith)))
    (λ (z : ltb c (f v) ≡ false).
    let here : f v ≤ c = ltb-false c (f v) z in
    let next = cond-false (ltb c (f v)) (Some v) (lowest_above f c (v + 1) n) z in
    elim (found f c (v + 1) n) [
      | inl r ↦ inl (next ∙ r.0, λ u p q. elim (cases_eq u v) [ inl e ↦ rw e here | inr ne ↦ r.1 u (omega arith) (omega arith) ])
      | inr r ↦ inr (r.0, next ∙ r.1, omega arith, omega arith, r.4, λ u p q. elim (cases_eq u v) [ inl e ↦ rw e here | inr ne ↦ r.5 u (omega arith) (omega arith) ])
    ])
    (cases_Bool (ltb c (f v)))

-- g is f with one more at e
module _ (f g : ℕ → ℕ) (c e : ℕ) (low : e < 512) (more : g e ≡ f e + 1) (rest : (u : ℕ) → u ≢ e → g u ≡ f u) where
  lowest_rises : c < g e → lowest_above g c 0 512 ≡ lower_of (lowest_above f c 0 512) e
  lowest_rises over =
      elim (found f c 0 512) [
        | inl r ↦ rw r.0 (is_lowest g c 0 512 e (omega arith) (omega arith) over (λ u p q. omega (arith, rest u (omega arith), r.1 u (omega arith) (omega arith))))
        | inr r ↦ rw r.1 (below r.0 r.3 r.4 r.5)
      ]
    where
      below : (w : ℕ) → w < 512 → c < f w → ((u : ℕ) → 0 ≤ u → u < w → f u ≤ c) → lowest_above g c 0 512 ≡ lower_of (Some w) e
      below w lw h least =
          ⊎_elim
          (λ (l : e < w).
          is_lowest g c 0 512 e (omega arith) (omega arith) over (λ u p q. omega (arith, rest u (omega arith), least u (omega arith) (omega arith)))
          ∙ sym (cond-false (leb w e) (Some w) (Some e) (lt-leb w e l)))
          (λ (l : w ≤ e).
          let up : c < g w = elim (cases_eq w e) [ inl z ↦ rw z over | inr ne ↦ omega (arith, rest w ne) ] in
          is_lowest g c 0 512 w (omega arith) (omega arith) up (λ u p q. omega (arith, rest u (omega arith), least u (omega arith) (omega arith)))
          ∙ sym (cond-true (leb w e) (Some w) (Some e) (le-leb w e l)))
          (cases_lt e w)

  lowest_stays : g e ≤ c → lowest_above g c 0 512 ≡ lowest_above f c 0 512
  lowest_stays under =
      elim (found f c 0 512) [
        | inl r ↦ rw r.0 (none_above g c 0 512 (λ u p q. elim (cases_eq u e) [ inl z ↦ rw z under | inr ne ↦ omega (arith, rest u ne, r.1 u (omega arith) (omega arith)) ]))
        | inr r ↦ rw r.1 (below r.0 r.3 r.4 r.5)
      ]
    where
      below : (w : ℕ) → w < 512 → c < f w → ((u : ℕ) → 0 ≤ u → u < w → f u ≤ c) → lowest_above g c 0 512 ≡ Some w
      below w lw h least =
          let off : w ≢ e = λ z. omega (arith, ap f z) in
          is_lowest g c 0 512 w (omega arith) (omega arith) (omega (arith, rest w off))
          (λ u p q. elim (cases_eq u e) [ inl z ↦ rw z under | inr ne ↦ omega (arith, rest u ne, least u (omega arith) (omega arith)) ])

-- the line i is counted, or taken out, at its end w
module _ (s : Side) (ps : List (ℕ × ℕ)) (ns : List ℕ) (i w : ℕ) (li : i < length ps) (at : w ≡ end_at ps s i) (lw : w < length ns) where
  hit : (v : ℕ) → v ≡ w → ◌≡◌ {A = ℕ} (cond (eqb (end_at ps s i) v) 1 0) 1
  hit v z = ap (λ (t : Bool). cond {A = ℕ} t 1 0) (eq-eqb (end_at ps s i) v (sym at ∙ sym z))

  miss : (v : ℕ) → v ≢ w → ◌≡◌ {A = ℕ} (cond (eqb (end_at ps s i) v) 1 0) 0
  miss v ne = ap (λ (t : Bool). cond {A = ℕ} t 1 0) (ne_eqb (end_at ps s i) v (λ z. ne (sym z ∙ sym at)))

  degree_more : (v : ℕ) → degree s v (take (i + 1) ps) ≡ degree s v (take i ps) + cond (eqb (end_at ps s i) v) 1 0
  degree_more v = sum_by_more (λ p. cond (eqb (on s p) v) 1 0) ps i (0, 0) li

  degree_less : (v : ℕ) → degree s v (drop i ps) ≡ cond (eqb (end_at ps s i) v) 1 0 + degree s v (drop (i + 1) ps)
  degree_less v = sum_by-drop_more (λ p. cond (eqb (on s p) v) 1 0) ps i (0, 0) li

  pub counts_more : Counts s (take i ps) ns → Counts s (take (i + 1) ps) (set ns w (get_or ns w 0 + 1))
  counts_more h v =
      elim (cases_eq v w) [
        | inl z ↦ rw z (omega (arith, get_or-set_same ns w (get_or ns w 0 + 1) 0 lw, degree_more w, hit w refl, h w))
        | inr ne ↦ omega (arith, get_or-set_other ns w v (get_or ns w 0 + 1) 0 ne, degree_more v, miss v ne, h v)
      ]

  -- where the line i is taken out, the other ends stay as they were
  pub cleared_more : Cleared s (drop i ps) ns → Cleared s (drop (i + 1) ps) (set ns w 0)
  cleared_more h v =
      elim (cases_eq v w) [
        | inl z ↦ inl (rw z (get_or-set_same ns w 0 0 lw))
        | inr ne ↦ elim (h v) [ inl e ↦ inl (get_or-set_other ns w v 0 0 ne ∙ e) | inr some ↦ inr (omega (arith, degree_less v, miss v ne)) ]
      ]

  pub few_counted : Counts s (take i ps) ns → get_or ns w 0 ≤ i
  few_counted h = omega (arith, h w, count_by-le-length (λ p. eqb (on s p) w) (take i ps), length-take-le i ps (omega arith))

  -- the lowest end so far
  module _ (c : ℕ) (low : w < 512) (h : Counts s (take i ps) ns) where
    one_more : degree s w (take (i + 1) ps) ≡ degree s w (take i ps) + 1
    one_more = omega (arith, degree_more w, hit w refl)

    others : (u : ℕ) → u ≢ w → degree s u (take (i + 1) ps) ≡ degree s u (take i ps)
    others u ne = omega (arith, degree_more u, miss u ne)

    rises : c < get_or ns w 0 + 1 → crowded s c (take (i + 1) ps) ≡ lower_of (crowded s c (take i ps)) w
    rises over = lowest_rises (λ v. degree s v (take i ps)) (λ v. degree s v (take (i + 1) ps)) c w low one_more others (omega (arith, one_more, h w))

    stays : get_or ns w 0 + 1 ≤ c → crowded s c (take (i + 1) ps) ≡ crowded s c (take i ps)
    stays under = lowest_stays (λ v. degree s v (take i ps)) (λ v. degree s v (take (i + 1) ps)) c w low one_more others (omega (arith, one_more, h w))

    pub crowded_more : (r q : Option ℕ) → r ≡ crowded s c (take i ps) → q ≡ cond (ltb c (get_or ns w 0 + 1)) (lower_of r w) r → q ≡ crowded s c (take (i + 1) ps)
    crowded_more r q e o =
        elim (cases_lt c (get_or ns w 0 + 1)) [
          | inl over ↦ o ∙ cond-true (ltb c (get_or ns w 0 + 1)) (lower_of r w) r (lt-ltb c (get_or ns w 0 + 1) over) ∙ ap (λ x. lower_of x w) e ∙ sym (rises over)
          | inr under ↦ o ∙ cond-false (ltb c (get_or ns w 0 + 1)) (lower_of r w) r (le-ltb c (get_or ns w 0 + 1) under) ∙ e ∙ sym (stays under)
        ]

-- the end w of the line at hand, and its place among the counts
pub record Here (s : Side) (ls : List Line) (k w : ℕ) (ns : List ℕ) : Type 0 where
  pub within : k < length (ends ls)
  pub at : w ≡ end_at (ends ls) s k
  pub low : w < 512
  pub room : w < length ns

pub here : (s : Side) (ls : List Line) (k : ℕ) (d : Line) (w : ℕ) (ns : List ℕ) → w ≡ end_of s (get_or ls k d) → Inside (ends ls) → k < length ls → length ns ≡ 512 → Here s ls k w ns
here s ls k d w ns e h l room =
    let lk : k < length (ends ls) = rw (length_ends ls) l in
    let at : w ≡ end_at (ends ls) s k = e ∙ sym (end_line ls s k d l) in
    let low : w < 512 = rw at (h s k lk) in
    record { within = lk; at = at; low = low; room = omega arith }

-- counted lines are there to be taken out
pub counts_cleared : (s : Side) (ps : List (ℕ × ℕ)) (ns : List ℕ) → Counts s ps ns → Cleared s ps ns
counts_cleared s ps ns h v = elim (cases_eq (get_or ns v 0) 0) [ inl z ↦ inl z | inr ne ↦ inr (omega (arith, h v)) ]

-- no line is left
pub all_cleared : (s : Side) (ps : List (ℕ × ℕ)) (ns : List ℕ) (i : ℕ) → length ps ≤ i → Cleared s (drop i ps) ns → (v : ℕ) → get_or ns v 0 ≡ 0
all_cleared s ps ns i l h v = elim (h v) [ inl z ↦ z | inr some ↦ absurd (omega (arith, ap (degree s v) (drop_all i ps l))) ]
