-- The most used node.
use Rattle.std.specs.Prelude.{◌≡◌, ℕ, ◌<◌, ◌≤◌, false, List, [], ◌++◌, map, Some, None, Option}
use Rattle.ports.specs.declared.transfer.Transfer.{Transfer}
use Rattle.timetables.specs.Loads.{sends, receives}
use Rattle.reports.specs.declared.loads.TransferSide.{TransferSide}
use Rattle.reports.specs.declared.loads.TransferSide.TheVariants.{Sending, Receiving}
use Rattle.reports.specs.declared.loads.NodeLoad.{NodeLoad}
use Rattle.reports.specs.Choice.{best_due}
use Rattle.reports.specs.Loads.{node_above}

-- the node that a transfer names on a side
abbrev pub node_on : TransferSide → Transfer → ℕ
node_on Sending t = t.sender
node_on Receiving t = t.receiver

-- how many of the transfers name the node v on a side: how many it sends, or how many it receives
abbrev pub load : TransferSide → ℕ → List Transfer → ℕ
load Sending v ts = sends v ts
load Receiving v ts = receives v ts

-- the load of the node v on a side
abbrev pub load_of : TransferSide → List Transfer → ℕ → NodeLoad
load_of s ts v = record { side = s; node = v; count = load s v ts }

-- the loads of the nodes that transfers name, on the side where they do
abbrev pub named_loads : List Transfer → List NodeLoad
named_loads ts = map (λ t. load_of Sending ts t.sender) ts ++ map (λ t. load_of Receiving ts t.receiver) ts

-- the best of these; none where there is no transfer
unfoldable pub heaviest_due : List Transfer → Option NodeLoad
heaviest_due ts = best_due node_above (named_loads ts)

-- the most used node: as many transfers name it on its side as are counted, no node is named by more on either side, and of
-- those that are named by equally many none ranks above it
pub record Heaviest (ts : List Transfer) (l : NodeLoad) : Type 0 where
  pub used : 0 < l.count
  pub counted : l.count ≡ load l.side l.node ts
  pub most : (s : TransferSide) (v : ℕ) → load s v ts ≤ l.count
  pub first : (s : TransferSide) (v : ℕ) → load s v ts ≡ l.count → node_above (load_of s ts v) l ≡ false

-- what is answered is the most used node; none exactly where there is no transfer
unfoldable pub IsHeaviest : List Transfer → Option NodeLoad → Type 0
IsHeaviest ts None = ts ≡ []
IsHeaviest ts (Some l) = Heaviest ts l
