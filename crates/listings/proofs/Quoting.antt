-- The loop that writes bytes as text.
use Rattle.std.proofs.Common.{◌≡◌, ℕ, ◌+◌, ◌<◌, List, [], ◌∷◌, ◌++◌, length, get_or, take, sym, ap, ◌∙◌, arith}
use mathlib.Core.List.{append_assoc}
use Rattle.std.specs.List.{flat_map}
use Rattle.std.proofs.lemmas.List.{flat_map_more, take_more, take_all}
use Rattle.listings.specs.Quoted.{escaped, quoted}

-- one byte more
pub byte_more : (bs : List ℕ) (i : ℕ) (before now after : List ℕ) → i < length bs → now ≡ before ++ flat_map escaped (take i bs) →
    after ≡ now ++ escaped (get_or bs i 0) → after ≡ before ++ flat_map escaped (take (i + 1) bs)
byte_more bs i before now after h b a =
    a ∙ ap (λ (t : List ℕ). t ++ escaped (get_or bs i 0)) b
    ∙ append_assoc before (flat_map escaped (take i bs)) (escaped (get_or bs i 0))
    ∙ ap (λ (t : List ℕ). before ++ t) (flat_map_more escaped [] (take i bs) (get_or bs i 0) ∙ ap (flat_map escaped) (sym (take_more bs i 0 h)))

-- all bytes, and the marks
pub all_bytes : (old bs opened inside closed : List ℕ) → opened ≡ old ++ (34 ∷ []) → inside ≡ opened ++ flat_map escaped (take (length bs) bs) → closed ≡ inside ++ (34 ∷ []) → closed ≡ old ++ quoted bs
all_bytes old bs opened inside closed o i c = rw (c, i, o, take_all (length bs) bs (omega arith)) (simp append_assoc)

pub ruleset quoting = (byte_more, all_bytes)
