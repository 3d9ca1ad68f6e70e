-- What holds between the steps of a report; only the contracts of private functions cite it.
use Rattle.std.specs.Prelude.{◌≡◌, ℕ, ◌<◌, false, List, map, length, count_by, nat_eq, slice_index}
use Rattle.std.specs.List.{range_with_len}
use Rattle.ports.specs.declared.transfer.Transfer.{Transfer}
use Rattle.timetables.specs.declared.seat.Seat.{Seat}
use Rattle.bookings.specs.declared.booking.Booking.{Booking}
use Rattle.bookings.specs.Model.{booking_at}
use Rattle.reports.specs.declared.loads.TransferSide.{TransferSide}
use Rattle.reports.specs.declared.loads.NodeLoad.{NodeLoad}
use Rattle.reports.specs.declared.loads.RoundLoad.{RoundLoad}
use Rattle.reports.specs.Loads.{node_above}
use Rattle.reports.specs.Heaviest.{node_on, load_of}

-- at each place stands how many of xs have it as their key
unfoldable pub Counts : {X : Type 0} → (X → ℕ) → List X → List ℕ → Type 0
Counts key xs cs = (v : ℕ) → v < length cs → slice_index cs v ≡ count_by (λ x. nat_eq (key x) v) xs

-- the node that a booking names on a side
abbrev pub node_key : TransferSide → Booking → ℕ
node_key s x = node_on s x.transfer

-- the nodes that bookings name on a side are below n
unfoldable pub NodesBelow : TransferSide → List Booking → ℕ → Type 0
NodesBelow s xs n = (i : ℕ) → i < length xs → node_key s (booking_at xs i) < n

-- the round of a seat
abbrev pub round_key : Seat → ℕ
round_key s = s.round

-- the loads of the 512 nodes that a cabinet can have, and of the 64 rounds that a book can have, by the counts
unfoldable pub node_loads : TransferSide → List ℕ → List NodeLoad
node_loads s cs = map (λ v. record { side = s; node = v; count = slice_index cs v }) (range_with_len 0 512)

unfoldable pub round_loads : List ℕ → List RoundLoad
round_loads cs = map (λ k. record { round = k; count = slice_index cs k }) (range_with_len 0 64)

-- the load of a node on a side; none of the 512 nodes has a load that ranks above it there
unfoldable pub MostOn : TransferSide → List Transfer → NodeLoad → Type 0
MostOn s ts l = (l ≡ load_of s ts l.node) × ((v : ℕ) → v < 512 → node_above (load_of s ts v) l ≡ false)
