-- In both orders more transfers rank above fewer.
use Rattle.std.proofs.Common.{◌≡◌, ℕ, ◌<◌, ◌≤◌, false, sym, ap, refl, ◌∙◌, ⊎_elim}
use Rattle.std.specs.declared.cmp.Ordering.{Ordering}
use Rattle.std.specs.declared.cmp.Ordering.TheVariants.{Less, Greater}
use Rattle.std.specs.Ordering.{is_lt, ordering_then, nat_cmp}
use Rattle.std.specs.Cmp.{nat_cmp_is}
use Rattle.std.proofs.lemmas.Bool.{cases_lt}
use Rattle.reports.specs.declared.loads.NodeLoad.{NodeLoad}
use Rattle.reports.specs.declared.loads.RoundLoad.{RoundLoad}
use Rattle.reports.specs.Loads.{node_ties, node_above, round_ties, round_above}

less_first : (p q : Ordering) → p ≡ Less → is_lt (ordering_then p q) ≡ false → ⊥
less_first p q e f = let z : is_lt (ordering_then Less q) ≡ false = ap (λ o. is_lt (ordering_then o q)) (sym e) ∙ f in absurd cc

greater_first : (p q : Ordering) → p ≡ Greater → is_lt (ordering_then p q) ≡ false
greater_first p q e = rw e refl

-- a first comparison of two numbers, the other way round, and whatever comes after it
no_more : (c d : ℕ) (q : Ordering) → is_lt (ordering_then (nat_cmp d c) q) ≡ false → c ≤ d
no_more c d q f =
    ⊎_elim
    (λ (l : d < c). absurd (less_first (nat_cmp d c) q (sym (nat_cmp_is d c Less l)) f))
    (λ (l : c ≤ d). l)
    (cases_lt d c)

fewer : (c d : ℕ) (q : Ordering) → c < d → is_lt (ordering_then (nat_cmp d c) q) ≡ false
fewer c d q l = greater_first (nat_cmp d c) q (sym (nat_cmp_is d c Greater l))

pub node_no_more : (a b : NodeLoad) → node_above a b ≡ false → a.count ≤ b.count
node_no_more a b f = no_more a.count b.count (node_ties a b) f

pub node_fewer : (a b : NodeLoad) → a.count < b.count → node_above a b ≡ false
node_fewer a b l = fewer a.count b.count (node_ties a b) l

pub round_no_more : (a b : RoundLoad) → round_above a b ≡ false → a.count ≤ b.count
round_no_more a b f = no_more a.count b.count (round_ties a b) f
