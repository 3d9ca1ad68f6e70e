-- The two stages in which a timetable is made: first rounds, by node; then the spines of each round, by line.
use Rattle.std.specs.Prelude.{◌≡◌, ℕ, ◌/◌, ◌<◌, ◌≢◌, List, length}
use Rattle.lines.specs.declared.line.Line.{Line}
use Rattle.ports.specs.declared.transfer.Transfer.{Transfer}
use Rattle.timetables.specs.declared.seat.Seat.{Seat}
use Rattle.timetables.specs.Loads.{transfer_at}
use Rattle.timetables.specs.Timetables.{seat_at}

-- a transfer as a line from its sender to its receiver
abbrev pub by_node : Transfer → Line
by_node t = record { left = t.sender; right = t.receiver; colour = 0 }

-- and as one from its send line to its receive line; node v stands on line v / n
abbrev pub by_line : ℕ → Transfer → Line
by_line n t = record { left = t.sender / n; right = t.receiver / n; colour = 0 }

-- each transfer has a round below R, and two of one round have different senders and different receivers
pub record InRounds (R : ℕ) (ts : List Transfer) (ss : List Seat) : Type 0 where
  pub each : length ss ≡ length ts
  pub below : (i : ℕ) → i < length ts → (seat_at ss i).round < R
  pub differ : (i j : ℕ) → i < length ts → j < length ts → i ≢ j → (seat_at ss i).round ≡ (seat_at ss j).round →
      ((transfer_at ts i).sender ≢ (transfer_at ts j).sender) × ((transfer_at ts i).receiver ≢ (transfer_at ts j).receiver)

-- each transfer of a round below k has a spine below n, and two of one such round that go by one spine have different send
-- lines and different receive lines, with n nodes on a line
pub record OnSpines (n k : ℕ) (ts : List Transfer) (ss : List Seat) : Type 0 where
  pub below : (i : ℕ) → i < length ts → (seat_at ss i).round < k → (seat_at ss i).spine < n
  pub differ : (i j : ℕ) → i < length ts → j < length ts → i ≢ j → (seat_at ss i).round < k →
      (seat_at ss i).round ≡ (seat_at ss j).round → (seat_at ss i).spine ≡ (seat_at ss j).spine →
      ((transfer_at ts i).sender / n ≢ (transfer_at ts j).sender / n) × ((transfer_at ts i).receiver / n ≢ (transfer_at ts j).receiver / n)
