-- What holds between the steps of a sheet; only the contracts of private functions cite it.
use Rattle.std.specs.Prelude.{◌≡◌, ◌≢◌, ℕ, ◌*◌, ◌<◌, ◌≤◌, List, ◌++◌, length, take, drop, map, find, count_by, is_some, slice_index_or, Some, None, Option}
use Rattle.std.specs.List.{flat_map, range_with_len}
use Rattle.ports.specs.declared.transfer.Transfer.{Transfer}
use Rattle.cabinet.specs.Wiring.{Meaning}
use Rattle.timetables.specs.declared.seat.Seat.{Seat}
use Rattle.timetables.specs.Loads.{transfer_at}
use Rattle.timetables.specs.Timetables.{seat_at, in_round}
use Rattle.bookings.specs.Model.{Model, transfers}
use Rattle.sheets.specs.Sheets.{is_sent_by, sent_by, row_at}

-- the rows of the transfers at places, one after the other
abbrev pub rows_at : (ℕ → ℕ → Meaning) → Model → List Seat → List (Option ℕ) → List ℕ
rows_at kind b ss ps = flat_map (row_at kind b ss) ps

-- a text over the front of old bytes, which stay as they were after it
abbrev pub written_over : List ℕ → List ℕ → List ℕ
written_over text old = text ++ drop (length text) old

-- the senders of the transfers are below n
unfoldable pub SendersBelow : List Transfer → ℕ → Type 0
SendersBelow ts n = (i : ℕ) → i < length ts → (transfer_at ts i).sender < n

-- the places that are noted are below n
unfoldable pub PlacesBelow : List (Option ℕ) → ℕ → Type 0
PlacesBelow ps n = (v i : ℕ) → v < length ps → slice_index_or ps v None ≡ Some i → i < n

-- no node sends two of the transfers of round k
unfoldable pub SentApart : ℕ → List Transfer → List Seat → Type 0
SentApart k ts ss =
    (i j : ℕ) → i < length ts → j < length ts → i ≢ j → (seat_at ss i).round ≡ k → (seat_at ss j).round ≡ k →
    (transfer_at ts i).sender ≢ (transfer_at ts j).sender

-- of the first i transfers, those of round k are noted: at each node the place of the one that it sends, and how many there are
unfoldable pub Noted : ℕ → List Transfer → List Seat → ℕ → List (Option ℕ) → ℕ → Type 0
Noted k ts ss i ps count =
    ((v : ℕ) → v < length ps → slice_index_or ps v None ≡ find (is_sent_by k ts ss v) (range_with_len 0 i))
    × (count ≡ count_by is_some ps)
    × (count ≡ in_round k (take i ss))

-- all transfers of round k are noted: the places, which are of live transfers, how many there are, and how long their rows
pub record RoundNoted (kind : ℕ → ℕ → Meaning) (b : Model) (ss : List Seat) (k : ℕ) (ps : List (Option ℕ)) (count : ℕ) : Type 0 where
  pub places : ps ≡ map (sent_by k (transfers b.live) ss) (range_with_len 0 (b.m * b.n))
  pub low : PlacesBelow ps (length b.live)
  pub all : count ≡ in_round k ss
  pub few : count ≤ 512
  pub rows : length (rows_at kind b ss ps) ≡ 20 * count
