-- Two lines between the same two ends.
use Rattle.std.proofs.Common.{◌≡◌, ℕ, zero, suc, ◌<◌, true, ◌⊎◌, ◌↔◌, List, [], ◌∷◌, get_or, Some, None, sym, refl, ap, ◌∙◌, inl, inr, arith}
use Rattle.std.proofs.lemmas.Bool.{cases_eq}
use Rattle.lines.specs.declared.line.Line.{Line}
use Rattle.lines.specs.declared.line.Side.TheVariants.{Left, Right}
use Rattle.lines.specs.Lines.{ends, colours, end_at, Proper}
use Rattle.lines.specs.Refusals.{refusal_due, lowest_above, crowd_refusal}
use Rattle.lines.specs.Arrangers.{Arranged}
use Rattle.lines.proofs.Places.{same_length}
use Rattle.lines.proofs.Accepted.{none_above}
use Rattle.examples.specs.Worked.{twins}

pub one_colour : (x y : ℕ) → refusal_due true 1 (twins x y) ≡ Some (record { number = 26; end = Some (Left, 0) })
unfolding lowest_above
one_colour x y = refl

pub two_colours : (x y : ℕ) → refusal_due true 2 (twins x y) ≡ None
unfolding lowest_above
two_colours x y = refl

pub no_lines : (c : ℕ) → refusal_due true c [] ≡ None
no_lines c =
    let e : lowest_above (λ v. 0) c 0 512 ≡ None = none_above (λ v. 0) c 0 512 (λ k p q. omega arith) in
    ap (λ o. crowd_refusal o (lowest_above (λ v. 0) c 0 512)) e ∙ ap (λ o. crowd_refusal None o) e

abbrev line : ℕ → ℕ → ℕ → Line
line a b k = record { left = a; right = b; colour = k }

-- a line by its parts
parts : (m : Line) (x : ℕ) → m.left ≡ 0 → m.right ≡ 0 → m.colour ≡ x → m ≡ record { left = 0; right = 0; colour = x }
parts m x l r c = ap (λ a. line a m.right m.colour) l ∙ ap (λ b. line 0 b m.colour) r ∙ ap (line 0 0) c

only : (x y : ℕ) (after : List Line) → Arranged 2 (twins x y) after → (after ≡ twins 0 1) ⊎ (after ≡ twins 1 0)
only x y [] a = absurd (omega (arith, same_length (twins x y) [] a.same))
only x y (m ∷ []) a = absurd (omega (arith, same_length (twins x y) (m ∷ []) a.same))
only x y (m ∷ (n ∷ (o ∷ ms))) a = absurd (omega (arith, same_length (twins x y) (m ∷ (n ∷ (o ∷ ms))) a.same))
only x y (m ∷ (n ∷ [])) a =
    let p = a.proper in
    let low0 : m.colour < 2 = p.below 0 (omega arith) in
    let low1 : n.colour < 2 = p.below 1 (omega arith) in
    let ml : m.left ≡ 0 = ap (λ (ps : List (ℕ × ℕ)). end_at ps Left 0) a.same in
    let mr : m.right ≡ 0 = ap (λ (ps : List (ℕ × ℕ)). end_at ps Right 0) a.same in
    let nl : n.left ≡ 0 = ap (λ (ps : List (ℕ × ℕ)). end_at ps Left 1) a.same in
    let nr : n.right ≡ 0 = ap (λ (ps : List (ℕ × ℕ)). end_at ps Right 1) a.same in
    let ne : m.colour ≡ n.colour → ⊥ = p.differ Left 0 1 (omega arith) (omega arith) (omega arith) (ml ∙ sym nl) in
    elim (cases_eq m.colour 0) [
      | inl z ↦ inl (ap (λ k. k ∷ (n ∷ [])) (parts m 0 ml mr z) ∙ ap (λ k. line 0 0 0 ∷ (k ∷ [])) (parts n 1 nl nr (omega arith)))
      | inr z ↦ inr (ap (λ k. k ∷ (n ∷ [])) (parts m 1 ml mr (omega arith)) ∙ ap (λ k. line 0 0 1 ∷ (k ∷ [])) (parts n 0 nl nr (omega arith)))
    ]

-- two different colours below 2
proper : (a b : ℕ) → a < 2 → b < 2 → (a ≡ b → ⊥) → Proper 2 (ends (twins a b)) (colours (twins a b))
proper a b la lb ne = record { each = refl; below = below; differ = λ s i j li lj off _. differ i j li lj off }
  where
    below : (k : ℕ) → k < 2 → get_or (colours (twins a b)) k 0 < 2
    below zero l = la
    below (suc zero) l = lb
    below (suc (suc k)) l = absurd (omega arith)

    differ : (i j : ℕ) → i < 2 → j < 2 → (i ≡ j → ⊥) → get_or (colours (twins a b)) i 0 ≡ get_or (colours (twins a b)) j 0 → ⊥
    differ zero zero li lj off = absurd (off refl)
    differ zero (suc zero) li lj off = ne
    differ (suc zero) zero li lj off = λ e. ne (sym e)
    differ (suc zero) (suc zero) li lj off = absurd (off refl)
    differ zero (suc (suc j)) li lj off = absurd (omega arith)
    differ (suc zero) (suc (suc j)) li lj off = absurd (omega arith)
    differ (suc (suc i)) j li lj off = absurd (omega arith)

both : (x y : ℕ) (after : List Line) → (after ≡ twins 0 1) ⊎ (after ≡ twins 1 0) → Arranged 2 (twins x y) after
both x y after (inl e) = rw e (record { same = refl; proper = proper 0 1 (omega arith) (omega arith) (omega arith) })
both x y after (inr e) = rw e (record { same = refl; proper = proper 1 0 (omega arith) (omega arith) (omega arith) })

pub either_order : (x y : ℕ) (after : List Line) → Arranged 2 (twins x y) after ↔ ((after ≡ twins 0 1) ⊎ (after ≡ twins 1 0))
either_order x y after = (only x y after, both x y after)
