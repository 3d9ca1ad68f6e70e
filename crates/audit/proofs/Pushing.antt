-- Lists with one element more at the end.
use Rattle.std.proofs.Common.{◌≡◌, ◌⊎◌, List, [], ◌∷◌, ◌++◌, length, sym, refl, ap, ◌∙◌, inl, inr, arith}
use Rattle.std.specs.List.{zip}
use Rattle.std.proofs.lemmas.List.{length-append, append-nil}

module _ {X : Type 0} where
  -- a place at which an element stands is the last one, or one of the list before it
  pub last_or_before : (h : List X) (x : X) (before after : List X) (y : X) → h ++ (x ∷ []) ≡ before ++ (y ∷ after) →
      ((before ≡ h) × (y ≡ x)) ⊎ ((rest : List X) × (h ≡ before ++ (y ∷ rest)))
  last_or_before [] x [] after y e = inl (refl, cc)
  last_or_before [] x (b ∷ before) after y e = absurd (omega (arith, ap length e, length-append before (y ∷ after)))
  last_or_before (g ∷ h) x [] after y e = inr (h, cc)
  last_or_before (g ∷ h) x (b ∷ before) after y e =
      let first : g ≡ b = cc in
      let rest : h ++ (x ∷ []) ≡ before ++ (y ∷ after) = cc in
      elim (last_or_before h x before after y rest) [
        | inl p ↦ inl (cc (p.0), p.1)
        | inr p ↦ inr (p.0, cc (p.1))
      ]

  -- what stands before a place is the whole list, or what stands there in the list before
  pub whole_or_before : (h : List X) (x : X) (before after : List X) → h ++ (x ∷ []) ≡ before ++ after →
      (before ≡ h ++ (x ∷ [])) ⊎ ((rest : List X) × (h ≡ before ++ rest))
  whole_or_before h x before [] e = inl (sym (append-nil before) ∙ sym e)
  whole_or_before h x before (y ∷ after) e = elim (last_or_before h x before after y e) [
    | inl p ↦ inr ([], sym p.0 ∙ sym (append-nil before))
    | inr p ↦ inr (y ∷ p.0, p.1)
  ]

pub zip_push : {X Y : Type 0} (xs : List X) (ys : List Y) (x : X) (y : Y) → length ys ≡ length xs → zip (xs ++ (x ∷ [])) (ys ++ (y ∷ [])) ≡ zip xs ys ++ ((x, y) ∷ [])
zip_push [] [] x y e = refl
zip_push [] (v ∷ ys) x y e = absurd (omega arith)
zip_push (u ∷ xs) [] x y e = absurd (omega arith)
zip_push (u ∷ xs) (v ∷ ys) x y e = ap (λ zs. (u, v) ∷ zs) (zip_push xs ys x y (omega arith))
