-- Which transfers are of which round, and how the spines of one round are put back into the seats. Only the contracts of
-- private functions cite what stands here.
use Rattle.std.specs.Prelude.{◌≡◌, ℕ, ◌+◌, ◌<◌, ◌≤◌, ◌≢◌, List, map, length, filter, slice_index, slice_index_or, slice_set, Some, None, Option, nat_eq}
use Rattle.std.specs.List.{range_with_len}
use Rattle.lines.specs.declared.line.Line.{Line}
use Rattle.lines.specs.Lines.{ends, colours, Inside, DegreesWithin}
use Rattle.ports.specs.declared.transfer.Transfer.{Transfer}
use Rattle.timetables.specs.declared.seat.Seat.{Seat}
use Rattle.timetables.specs.Loads.{transfer_at}
use Rattle.timetables.specs.Stages.{by_line}
use Rattle.timetables.specs.Timetables.{seat_at}

-- no node is above the highest end that an arranger knows
abbrev pub LowNodes : List Transfer → Type 0
LowNodes ts = (i : ℕ) → i < length ts → ((transfer_at ts i).sender < 512) × ((transfer_at ts i).receiver < 512)

-- the places of the transfers of round k, rising
unfoldable pub places_of : ℕ → List Seat → List ℕ
places_of k ss = filter (λ i. nat_eq (seat_at ss i).round k) (range_with_len 0 (length ss))

-- the transfer at place i, as a line from its send line to its receive line with n nodes on each
unfoldable pub line_at : ℕ → List Transfer → ℕ → Line
line_at n ts i = by_line n (transfer_at ts i)

-- the lines of the transfers at some places
unfoldable pub lines_at : ℕ → List Transfer → List ℕ → List Line
lines_at n ts ps = map (line_at n ts) ps

-- lines that no arranger refuses that serves c colours: they are not too many, no end is too high, and none is crowded
unfoldable pub Arrangeable : ℕ → List Line → Type 0
Arrangeable c ls = (length ls ≤ 1024) × Inside (ends ls) × DegreesWithin c (ends ls)

-- of the places from i on, the first whose seat has round k; none where there is none
abbrev pub First : List Seat → ℕ → ℕ → Option ℕ → Type 0
First ss k i (Some p) = (i ≤ p) × (p < length ss) × ((seat_at ss p).round ≡ k) × ((j : ℕ) → i ≤ j → j < p → (seat_at ss j).round ≢ k)
First ss k i None = (j : ℕ) → i ≤ j → j < length ss → (seat_at ss j).round ≢ k

-- the first place of each round, and after each place the next one of the same round
pub record Linked (ss : List Seat) (firsts nexts : List (Option ℕ)) : Type 0 where
  pub first : (k : ℕ) → k < 64 → First ss k 0 (slice_index_or firsts k None)
  pub next : (i : ℕ) → i < length ss → First ss (seat_at ss i).round (i + 1) (slice_index_or nexts i None)

-- places below a number, rising
pub record Places (count : ℕ) (ps : List ℕ) : Type 0 where
  pub below : (a : ℕ) → a < length ps → slice_index ps a < count
  pub rise : (a b : ℕ) → a < b → b < length ps → slice_index ps a < slice_index ps b

-- as many seats, with the same rounds
pub record SameRounds (old new : List Seat) : Type 0 where
  pub each : length new ≡ length old
  pub same : (i : ℕ) → (seat_at new i).round ≡ (seat_at old i).round

-- the seat at each of the places has the colour of its line as spine; other seats are as they were, and rounds too
pub record Spread (ps : List ℕ) (ls : List Line) (old new : List Seat) : Type 0 where
  pub rounds : SameRounds old new
  pub given : (a : ℕ) → a < length ps → (seat_at new (slice_index ps a)).spine ≡ slice_index (colours ls) a
  pub others : (i : ℕ) → ((a : ℕ) → a < length ps → slice_index ps a ≢ i) → (seat_at new i).spine ≡ (seat_at old i).spine

-- the seats, but the one at place p goes by spine j
unfoldable pub on_spine : List Seat → ℕ → ℕ → List Seat
on_spine ss p j = slice_set ss p (record { round = (seat_at ss p).round; spine = j })

-- the seat that a line gives in the first stage: its colour is the round
abbrev pub round_seat : Line → Seat
round_seat l = record { round = l.colour; spine = 0 }
