-- What a clash-free timetable is, and when one exists.
use Rattle.std.specs.Prelude.{◌≡◌, ℕ, ◌<◌, ◌≤◌, ◌≢◌, true, ◌↔◌, List, [], length, count_by, nat_eq, Ok, slice_index_or}
use Rattle.ports.specs.declared.transfer.Transfer.{Transfer}
use Rattle.ports.specs.Checks.{lines_fit, nodes_fit}
use Rattle.cabinet.specs.Wiring.{Meaning, walk, bytes_of}
use Rattle.cabinet.specs.Laws.{Meet, path}
use Rattle.timetables.specs.declared.seat.Seat.{Seat}
use Rattle.timetables.specs.Loads.{transfer_at, LoadsWithin, largest_load, BetweenNodes}
use Rattle.crossbar.specs.declared.wires.Wire.{Wire}

-- the seat at place i
abbrev pub seat_at : List Seat → ℕ → Seat
seat_at ss i = slice_index_or ss i (record { round = 0; spine = 0 })

-- how many transfers have the round k; each has one seat
abbrev pub in_round : ℕ → List Seat → ℕ
in_round k ss = count_by (λ s. nat_eq s.round k) ss

-- the wires that the transfer at place i crosses, with the header for the spine of its seat
abbrev pub wires : Meaning → List Transfer → List Seat → ℕ → List Wire
wires kind ts ss i = path kind (transfer_at ts i).sender (transfer_at ts i).receiver (seat_at ss i).spine

-- a clash-free timetable of R rounds: a seat for each transfer in order, its round below R and its spine below n, and no
-- two transfers of one round cross a common wire
pub record ClashFree (kind : Meaning) (n R : ℕ) (ts : List Transfer) (ss : List Seat) : Type 0 where
  pub each : length ss ≡ length ts
  pub rounds : (i : ℕ) → i < length ts → (seat_at ss i).round < R
  pub spines : (i : ℕ) → i < length ts → (seat_at ss i).spine < n
  pub apart : (i j : ℕ) → i < length ts → j < length ts → i ≢ j → (seat_at ss i).round ≡ (seat_at ss j).round → Meet (wires kind ts ss i) (wires kind ts ss j) → ⊥

-- some clash-free timetable of R rounds holds the transfers
abbrev pub Timetabled : Meaning → ℕ → ℕ → List Transfer → Type 0
Timetabled kind n R ts = (ss : List Seat) × ClashFree kind n R ts ss

-- the header of each transfer for the spine of its seat, walked from the sender, ends at the receiver with no byte left
abbrev pub Delivers : Meaning → List Transfer → List Seat → Type 0
Delivers kind ts ss =
    (i : ℕ) → i < length ts →
    (let t = transfer_at ts i in walk kind t.sender (bytes_of (kind.header t.sender t.receiver (seat_at ss i).spine)) ≡ Ok (t.receiver, []))

-- R rounds hold transfers between nodes exactly where no node sends or receives more than R of them
abbrev pub RoundsSuffice : (ℕ → ℕ → Meaning) → Type 0
RoundsSuffice kind =
    (m n R : ℕ) (ts : List Transfer) → lines_fit m ≡ true → nodes_fit n ≡ true → BetweenNodes m n ts →
    Timetabled (kind m n) n R ts ↔ LoadsWithin R ts

-- the rounds that hold them are those from the largest load on, which is so the least number that does
abbrev pub LeastRounds : (ℕ → ℕ → Meaning) → Type 0
LeastRounds kind =
    (m n R : ℕ) (ts : List Transfer) → lines_fit m ≡ true → nodes_fit n ≡ true → BetweenNodes m n ts →
    Timetabled (kind m n) n R ts ↔ (largest_load ts ≤ R)
