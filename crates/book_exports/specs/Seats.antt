-- Transfers as bytes, six to a transfer, and the seats that are put into them.
use Rattle.std.specs.Prelude.{◌≡◌, ℕ, ◌+◌, ◌*◌, ◌/◌, ◌%◌, ◌<◌, List, map, length, slice_index}
use Rattle.std.specs.List.{range_with_len}
use Rattle.ports.specs.declared.transfer.Transfer.{Transfer}
use Rattle.timetables.specs.declared.seat.Seat.{Seat}
use Rattle.timetables.specs.Timetables.{seat_at}

-- transfer i: sender and receiver, each low byte first
abbrev pub transfer_in : List ℕ → ℕ → Transfer
transfer_in bs i =
    record {
      sender = slice_index bs (6 * i) + slice_index bs (6 * i + 1) * 256;
      receiver = slice_index bs (6 * i + 2) + slice_index bs (6 * i + 3) * 256;
    }

-- its seat: round and spine, after the nodes
abbrev pub seat_in : List ℕ → ℕ → Seat
seat_in bs i = record { round = slice_index bs (6 * i + 4); spine = slice_index bs (6 * i + 5) }

-- all transfers of the bytes, in order
abbrev pub transfers_in : List ℕ → List Transfer
transfers_in bs = map (transfer_in bs) (range_with_len 0 (length bs / 6))

-- and their seats
abbrev pub seats_in : List ℕ → List Seat
seats_in bs = map (seat_in bs) (range_with_len 0 (length bs / 6))

-- the first i seats stand in the bytes
abbrev pub SeatsPut : ℕ → List Seat → List ℕ → Type 0
SeatsPut i ss bs = (j : ℕ) → j < i → seat_in bs j ≡ seat_at ss j

-- no byte changes but those of rounds and spines
abbrev pub NodesKept : List ℕ → List ℕ → Type 0
NodesKept before after = (k : ℕ) → k % 6 < 4 → slice_index after k ≡ slice_index before k
