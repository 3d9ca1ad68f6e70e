-- What the counts of a table hold.
use Rattle.std.specs.Prelude.{◌≡◌, ℕ, List, slice_index}
use Rattle.ports.specs.declared.transfer.Transfer.{Transfer}
use Rattle.timetables.specs.Loads.{sends, receives}

-- at each node stands how many of the transfers it sends, and how many it receives
pub record Counted (sent received : List ℕ) (ts : List Transfer) : Type 0 where
  pub sends : (v : ℕ) → slice_index sent v ≡ sends v ts
  pub receives : (v : ℕ) → slice_index received v ≡ receives v ts
