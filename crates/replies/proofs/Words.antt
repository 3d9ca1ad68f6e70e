-- Five words of a command line.
use Rattle.std.proofs.Common.{◌≡◌, ℕ, ◌<◌, List, [], ◌∷◌, map, length, get_or, Err, refl, sym, ap, ◌∙◌, arith}
use Rattle.replies.specs.declared.arguments.Misuse.TheVariants.{Count}
use Rattle.replies.specs.Arguments.{query_of, query_in}

module _ {X : Type 0} (f : X → List ℕ) where
  -- other than five words
  pub too_few : (ws : List X) → length ws < 5 → Err Count ≡ query_in (map f ws)
  unfolding query_in
  too_few (a ∷ b ∷ c ∷ d ∷ e ∷ more) h = absurd (omega arith)
  too_few _ h = refl

  pub too_many : (ws : List X) → 5 < length ws → Err Count ≡ query_in (map f ws)
  unfolding query_in
  too_many (a ∷ b ∷ c ∷ d ∷ e ∷ x ∷ more) h = refl
  too_many _ h = absurd (omega arith)

  -- five words, each by what stands at its place
  five : (ws : List X) (a b c d e : X) → length ws ≡ 5 → a ≡ get_or ws 0 a → b ≡ get_or ws 1 b → c ≡ get_or ws 2 c → d ≡ get_or ws 3 d → e ≡ get_or ws 4 e →
      map f ws ≡ f a ∷ f b ∷ f c ∷ f d ∷ f e ∷ []
  five (v ∷ w ∷ x ∷ y ∷ z ∷ []) a b c d e h ha hb hc hd he = cc
  five _ a b c d e h ha hb hc hd he = absurd (omega arith)

  pub asked_five : (ws : List X) (a b c d e : X) (ta tb tc td te : List ℕ) → length ws ≡ 5 →
      a ≡ get_or ws 0 a → b ≡ get_or ws 1 b → c ≡ get_or ws 2 c → d ≡ get_or ws 3 d → e ≡ get_or ws 4 e →
      ta ≡ f a → tb ≡ f b → tc ≡ f c → td ≡ f d → te ≡ f e → query_of ta tb tc td te ≡ query_in (map f ws)
  unfolding query_in
  asked_five ws a b c d e ta tb tc td te h ha hb hc hd he ea eb ec ed ee =
      let words : ta ∷ tb ∷ tc ∷ td ∷ te ∷ [] ≡ f a ∷ f b ∷ f c ∷ f d ∷ f e ∷ [] = cc in
      ap query_in (words ∙ sym (five ws a b c d e h ha hb hc hd he))
