-- How loads rank.
use Rattle.std.specs.Prelude.{ℕ, Bool}
use Rattle.std.specs.declared.cmp.Ordering.{Ordering}
use Rattle.std.specs.Ordering.{is_lt, nat_cmp, on, flip_args, then_cmp}
use Rattle.reports.specs.declared.loads.TransferSide.{TransferSide}
use Rattle.reports.specs.declared.loads.TransferSide.TheVariants.{Sending, Receiving}
use Rattle.reports.specs.declared.loads.NodeLoad.{NodeLoad}
use Rattle.reports.specs.declared.loads.RoundLoad.{RoundLoad}

-- the sending side comes first
abbrev pub side_number : TransferSide → ℕ
side_number Sending = 0
side_number Receiving = 1

-- of two nodes that equally many transfers name, the one on the sending side comes first, and then the lower one
abbrev pub node_ties : NodeLoad → NodeLoad → Ordering
node_ties = then_cmp (on (λ l. side_number l.side) nat_cmp) (on (λ l. l.node) nat_cmp)

-- the load with more transfers comes first; of two with equally many, node_ties decides
abbrev pub node_order : NodeLoad → NodeLoad → Ordering
node_order = then_cmp (flip_args (on (λ l. l.count) nat_cmp)) node_ties

-- whether the first of two loads ranks above the second
abbrev pub node_above : NodeLoad → NodeLoad → Bool
node_above a b = is_lt (node_order a b)

-- of two rounds that equally many transfers have, the lower one comes first
abbrev pub round_ties : RoundLoad → RoundLoad → Ordering
round_ties = on (λ l. l.round) nat_cmp

-- the load with more transfers comes first; of two with equally many, round_ties decides
abbrev pub round_order : RoundLoad → RoundLoad → Ordering
round_order = then_cmp (flip_args (on (λ l. l.count) nat_cmp)) round_ties

-- whether the first of two loads ranks above the second
abbrev pub round_above : RoundLoad → RoundLoad → Bool
round_above a b = is_lt (round_order a b)
