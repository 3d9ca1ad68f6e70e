-- How many colours suffice: both directions of the theorem.
use Rattle.std.proofs.Common.{◌≡◌, ℕ, ◌<◌, eqb, List, map, length, get_or, sym, ◌∙◌, arith}
use Rattle.std.specs.List.{range_with_len}
use Rattle.std.proofs.lemmas.List.FromFn.{length-map-range_with_len, get_or-map-range_with_len}
use Rattle.lines.specs.declared.line.Side.{Side}
use Rattle.lines.specs.declared.line.Side.TheVariants.{Left, Right}
use Rattle.lines.specs.Lines.{on, end_at, degree, DegreesWithin, Proper}
use Rattle.lines.specs.Theorem.{Colourable, ColoursSuffice}
use Rattle.lines.proofs.Colour.{deg, colour, Coloured}
use Rattle.lines.proofs.Pigeon.{deg_pigeon, count_by_cnt}

-- the degree of an end, counted in the list and by place
by_place : (s : Side) (ps : List (ℕ × ℕ)) (v : ℕ) → degree s v ps ≡ deg (end_at ps s) (length ps) v
by_place s ps v = count_by_cnt (λ p. eqb (on s p) v) ps (0, 0)

pub colourable_within : (c : ℕ) (ps : List (ℕ × ℕ)) → Colourable c ps → DegreesWithin c ps
colourable_within c ps h s v =
    rw (by_place s ps v)
    (deg_pigeon (end_at ps s) (λ i. get_or h.0 i 0) (length ps) c v (λ i l _. h.1.below i l)
    (λ i j li lj ne e e'. h.1.differ s i j li lj ne (e ∙ sym e')))

proper : (c : ℕ) (ps : List (ℕ × ℕ)) (f : ℕ → ℕ) → Coloured c (end_at ps Left) (end_at ps Right) (length ps) f → Proper c ps (map f (range_with_len 0 (length ps)))
proper c ps f h = record {
  each = length-map-range_with_len f 0 (length ps);
  below = λ i l. rw (is i l) (h.below i l);
  differ = λ s i j li lj ne e same. differ s i j li lj ne e (sym (is i li) ∙ same ∙ is j lj);
}
  where
    is : (i : ℕ) → i < length ps → get_or (map f (range_with_len 0 (length ps))) i 0 ≡ f i
    is i l = get_or-map-range_with_len f 0 (length ps) i i 0 l (omega arith)

    differ : (s : Side) (i j : ℕ) → i < length ps → j < length ps → (i ≡ j → ⊥) → end_at ps s i ≡ end_at ps s j → f i ≡ f j → ⊥
    differ Left i j li lj ne e same = omega (arith, h.once_p i j li lj ne e same, h.below i li)
    differ Right i j li lj ne e same = omega (arith, h.once_q i j li lj ne e same, h.below i li)

enough : (c : ℕ) (ps : List (ℕ × ℕ)) → DegreesWithin c ps → Colourable c ps
enough c ps few =
    let r = colour c (end_at ps Left) (end_at ps Right) (length ps) (λ v. rw (← by_place Left ps v) (few Left v)) (λ v. rw (← by_place Right ps v) (few Right v)) in
    (map r.0 (range_with_len 0 (length ps)), proper c ps r.0 r.1)

pub colours_suffice : ColoursSuffice
colours_suffice c ps = (colourable_within c ps, enough c ps)
