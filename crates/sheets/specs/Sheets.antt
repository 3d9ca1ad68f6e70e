-- The text of a round, and what a call for it answers and writes.
use Rattle.std.specs.Prelude.{◌≡◌, ℕ, ◌+◌, ◌*◌, ◌/◌, ◌%◌, ◌<◌, Bool, ◌&&◌, cond, List, [], ◌++◌, length, drop, find, Some, None, Option, Ok, Err, Result, codes, decimal, nat_eq, nat_le, nat_lt}
use Rattle.std.specs.List.{flat_map, range_with_len}
use Rattle.crossbar.specs.Refusals.{Refusal, refuse}
use Rattle.crossbar.specs.Text.{hex, two_digits}
use Rattle.ports.specs.declared.transfer.Transfer.{Transfer}
use Rattle.cabinet.specs.Wiring.{Meaning}
use Rattle.timetables.specs.declared.seat.Seat.{Seat}
use Rattle.timetables.specs.Loads.{transfer_at}
use Rattle.timetables.specs.Timetables.{seat_at, in_round}
use Rattle.bookings.specs.Model.{Model, transfers}
use Rattle.book.specs.Calls.{header_at}

-- a number below 1,000 in three decimal digits
abbrev pub three_digits : ℕ → List ℕ
three_digits v = decimal (v / 100) ++ two_digits (v % 100)

-- the head line: the round, and how many transfers have it
abbrev pub head_text : ℕ → ℕ → List ℕ
head_text k count = codes "R" ++ (two_digits k ++ (codes " " ++ (three_digits count ++ codes "\n")))

-- the three bytes of a header in hexadecimal digits
abbrev pub header_text : ℕ × ℕ × ℕ → List ℕ
header_text h = hex h.0 ++ (codes " " ++ (hex h.1 ++ (codes " " ++ hex h.2)))

-- the row of a transfer: its sender and receiver, its spine and its header
unfoldable pub row_text : Transfer → ℕ → ℕ × ℕ × ℕ → List ℕ
row_text t j h =
    three_digits t.sender ++ (codes ">" ++ (three_digits t.receiver ++
    (codes " " ++ (two_digits j ++ (codes " " ++ (header_text h ++ codes "\n"))))))

-- whether the transfer at place i has the round k and is sent by the node v
abbrev pub is_sent_by : ℕ → List Transfer → List Seat → ℕ → ℕ → Bool
is_sent_by k ts ss v i = nat_eq (seat_at ss i).round k && nat_eq (transfer_at ts i).sender v

-- the place of the transfer of round k that the node v sends; none where it sends none
abbrev pub sent_by : ℕ → List Transfer → List Seat → ℕ → Option ℕ
sent_by k ts ss v = find (is_sent_by k ts ss v) (range_with_len 0 (length ts))

-- the row of the transfer at a place; nothing where there is no place
abbrev pub row_at : (ℕ → ℕ → Meaning) → Model → List Seat → Option ℕ → List ℕ
row_at kind b ss None = []
row_at kind b ss (Some i) = row_text (transfer_at (transfers b.live) i) (seat_at ss i).spine (header_at kind b ss i)

-- the rows of the transfers of round k, by ascending sender
unfoldable pub rows_text : (ℕ → ℕ → Meaning) → Model → List Seat → ℕ → List ℕ
rows_text kind b ss k = flat_map (λ v. row_at kind b ss (sent_by k (transfers b.live) ss v)) (range_with_len 0 (b.m * b.n))

-- every live transfer of round k has its row: its sender is a node, and the transfer that this node sends in the round is it
unfoldable pub HasRows : Model → List Seat → ℕ → Type 0
HasRows b ss k =
    (i : ℕ) → i < length b.live → (seat_at ss i).round ≡ k → let v = (transfer_at (transfers b.live) i).sender in
    (v < b.m * b.n) × (sent_by k (transfers b.live) ss v ≡ Some i)

-- the sheet of round k
unfoldable pub sheet_text : (ℕ → ℕ → Meaning) → Model → List Seat → ℕ → List ℕ
sheet_text kind b ss k = head_text k (in_round k ss) ++ rows_text kind b ss k

-- how long it is: the head line has 8 bytes, and each row 20
abbrev pub sheet_length : List Seat → ℕ → ℕ
sheet_length ss k = 8 + 20 * in_round k ss

-- the answer of a call for it: the length; 13 where there is no such round, then 14 where the buffer is too short
abbrev pub sheet_due : Model → List Seat → ℕ → ℕ → Result ℕ Refusal
sheet_due b ss k room =
    cond (nat_lt k b.rounds) (cond (nat_le (sheet_length ss k) room) (Ok (sheet_length ss k)) (refuse 14)) (refuse 13)

-- what stands in the buffer then: the sheet, and after it what stood there; where it is refused, what stood in the buffer
abbrev pub sheet_left : (ℕ → ℕ → Meaning) → Model → List Seat → ℕ → List ℕ → List ℕ
sheet_left kind b ss k buffer =
    elim (sheet_due b ss k (length buffer)) [ Err _ ↦ buffer | Ok l ↦ sheet_text kind b ss k ++ drop l buffer ]
