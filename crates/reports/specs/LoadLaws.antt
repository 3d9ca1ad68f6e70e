-- The two orders are total.
use Rattle.std.proofs.Common.{◌≡◌, ◌&&◌, eqb, Bool, true, false, nat_eq, refl, ap, ◌∙◌, arith, rules}
use Rattle.std.specs.Cmp.{IsTotalOrder, IsStrictWeakOrder}
use Rattle.std.specs.Cmp.Rules.{comparing}
use Rattle.std.specs.declared.cmp.Ordering.{Ordering}
use Rattle.std.specs.declared.cmp.Ordering.TheVariants.{Less, Equal, Greater}
use Rattle.std.specs.Ordering.{is_lt, is_eq, on, eq_of_both, ordering_reverse}
use Rattle.std.proofs.lemmas.Bool.{and_parts, eqb-true}
use Rattle.std.proofs.lemmas.List.MinMax.{ranks_by}
use Rattle.reports.specs.declared.loads.TransferSide.{TransferSide}
use Rattle.reports.specs.declared.loads.TransferSide.TheVariants.{Sending, Receiving}
use Rattle.reports.specs.declared.loads.NodeLoad.{NodeLoad}
use Rattle.reports.specs.declared.loads.RoundLoad.{RoundLoad}
use Rattle.reports.specs.Loads.{side_number, node_order, node_above, round_order, round_above}

node_total : IsTotalOrder node_order
node_total = search (comparing, rules)

round_total : IsTotalOrder round_order
round_total = search (comparing, rules)

pub node_ranks : IsStrictWeakOrder node_above
node_ranks = ranks_by node_total (λ (l : NodeLoad). l)

pub round_ranks : IsStrictWeakOrder round_above
round_ranks = ranks_by round_total (λ (l : RoundLoad). l)

-- ---- what ties is the same

tied_in : (p q : Ordering) → p ≡ ordering_reverse q → is_lt p ≡ false → is_lt q ≡ false → p ≡ Equal
tied_in Less q e f g = absurd cc
tied_in Equal q e f g = refl
tied_in Greater Less e f g = absurd cc
tied_in Greater Equal e f g = e
tied_in Greater Greater e f g = absurd cc

tied : {K : Type 0} (R : K → K → Ordering) → IsTotalOrder R → (a b : K) → is_lt (R a b) ≡ false → is_lt (R b a) ≡ false → R a b ≡ Equal
tied R total a b = tied_in (R a b) (R b a) (total.antisymm a b)

-- the test of each field, which is the same as that of a tie
abbrev node_same : NodeLoad → NodeLoad → Bool
node_same = eq_of_both (on (λ l. l.count) nat_eq) (eq_of_both (on (λ l. side_number l.side) nat_eq) (on (λ l. l.node) nat_eq))

abbrev round_same : RoundLoad → RoundLoad → Bool
round_same = eq_of_both (on (λ l. l.count) nat_eq) (on (λ l. l.round) nat_eq)

node_tied : (a b : NodeLoad) → node_same a b ≡ is_eq (node_order a b)
node_tied = search (comparing, rules)

round_tied : (a b : RoundLoad) → round_same a b ≡ is_eq (round_order a b)
round_tied = search (comparing, rules)

side_of_number : (s t : TransferSide) → side_number s ≡ side_number t → s ≡ t
side_of_number Sending Sending e = refl
side_of_number Sending Receiving e = absurd (omega (arith, e))
side_of_number Receiving Sending e = absurd (omega (arith, e))
side_of_number Receiving Receiving e = refl

pub node_apart : (a b : NodeLoad) → node_above a b ≡ false → node_above b a ≡ false → a ≡ b
node_apart a b f g =
    let all : node_same a b ≡ true = node_tied a b ∙ ap is_eq (tied node_order node_total a b f g) in
    let parts = and_parts (eqb a.count b.count) (eqb (side_number a.side) (side_number b.side) && eqb a.node b.node) all in
    let rest = and_parts (eqb (side_number a.side) (side_number b.side)) (eqb a.node b.node) parts.1 in
    let count = eqb-true a.count b.count parts.0 in
    let side = side_of_number a.side b.side (eqb-true (side_number a.side) (side_number b.side) rest.0) in
    let node = eqb-true a.node b.node rest.1 in
    let same : ◌≡◌ {A = NodeLoad} (record { side = a.side; node = a.node; count = a.count }) (record { side = b.side; node = b.node; count = b.count }) = cc in same

pub round_apart : (a b : RoundLoad) → round_above a b ≡ false → round_above b a ≡ false → a ≡ b
round_apart a b f g =
    let all : round_same a b ≡ true = round_tied a b ∙ ap is_eq (tied round_order round_total a b f g) in
    let parts = and_parts (eqb a.count b.count) (eqb a.round b.round) all in
    let count = eqb-true a.count b.count parts.0 in
    let round = eqb-true a.round b.round parts.1 in
    let same : ◌≡◌ {A = RoundLoad} (record { round = a.round; count = a.count }) (record { round = b.round; count = b.count }) = cc in same
