-- What the calls of a book answer, over its model and its seats.
use Rattle.std.specs.Prelude.{◌≡◌, ◌≢◌, ℕ, ◌≤◌, true, ⊤, ◌⊎◌, ◌↔◌, List, [], ◌∷◌, ◌++◌, Some, None, Ok, Err, Result}
use Rattle.crossbar.specs.Refusals.{Refusal, refuse}
use Rattle.ports.specs.declared.transfer.Transfer.{Transfer}
use Rattle.ports.specs.Nodes.{is_node}
use Rattle.cabinet.specs.Wiring.{Meaning, walk, bytes_of}
use Rattle.timetables.specs.declared.seat.Seat.{Seat}
use Rattle.timetables.specs.Loads.{transfer_at}
use Rattle.timetables.specs.Timetables.{seat_at, ClashFree, Timetabled, Delivers}
use Rattle.image.specs.Faults.{Fault}
use Rattle.image.specs.Meaning.{JobImage, Reaches, IsNotIn, transfers as image_transfers}
use Rattle.image.specs.Records.{NumberedRecord, transfer_held}
use Rattle.bookings.specs.Model.{Model, transfers, position_of}

-- seats that make a clash-free timetable of a book's live transfers, in as many rounds as the book has
abbrev pub Seated : (ℕ → ℕ → Meaning) → Model → List Seat → Type 0
Seated kind b ss = ClashFree (kind b.m b.n) b.n b.rounds (transfers b.live) ss

-- with these seats the header of each live transfer leads from its sender to its receiver
abbrev pub Delivered : (ℕ → ℕ → Meaning) → Model → List Seat → Type 0
Delivered kind b ss = Delivers (kind b.m b.n) (transfers b.live) ss

-- the numbers of rounds that hold the live transfers without a clash are those from k on: k is the least
abbrev pub LeastExactly : (ℕ → ℕ → Meaning) → Model → ℕ → Type 0
LeastExactly kind b k = (R : ℕ) → Timetabled (kind b.m b.n) b.n R (transfers b.live) ↔ (k ≤ R)

-- refused for want of rounds: by 8 or by 9
abbrev pub WantsRounds : {A : Type 0} → Result A Refusal → Type 0
WantsRounds (Ok a) = ⊥
WantsRounds (Err e) = (e.number ≡ 8) ⊎ (e.number ≡ 9)

-- a booking of two nodes is refused for want of rounds exactly where no clash-free timetable, in as many rounds as the book
-- has, holds it and the live transfers
abbrev pub FullExactly : {A : Type 0} → (ℕ → ℕ → Meaning) → Model → Transfer → Result A Refusal → Type 0
FullExactly kind b t answer =
    is_node b.m b.n t.sender ≡ true → is_node b.m b.n t.receiver ≡ true →
    WantsRounds answer ↔ (Timetabled (kind b.m b.n) b.n b.rounds (transfers b.live ++ (t ∷ [])) → ⊥)

-- a load is refused neither at the head nor at one of these records
abbrev pub GoesPast : {A : Type 0} → List NumberedRecord → Result A Fault → Type 0
GoesPast xs (Ok a) = ⊤
GoesPast xs (Err f) = (f.cell ≢ 0) × IsNotIn f.cell xs

-- it is refused for want of rounds, by 8 or by 9, at the record of this cell
abbrev pub WantsRoundsAt : {A : Type 0} → ℕ → Result A Fault → Type 0
WantsRoundsAt c (Ok a) = ⊥
WantsRoundsAt c (Err f) = (f.cell ≡ c) × ((f.refusal.number ≡ 8) ⊎ (f.refusal.number ≡ 9))

-- a load reaches the booking of a record x where the chain of the image comes to x, a sound record, after the records xs, and
-- the load is refused neither at the head nor at one of those. A booking of two nodes that it reaches is refused for want of
-- rounds exactly where no clash-free timetable, in as many rounds as the book has, holds it, the live transfers and those of xs
abbrev pub LoadFullExactly : {A : Type 0} → (ℕ → ℕ → Meaning) → Model → JobImage → Result A Fault → Type 0
LoadFullExactly kind b s answer =
    (xs : List NumberedRecord) (x : NumberedRecord) (t : Transfer) (g e : ℕ) →
    Reaches s (xs ++ (x ∷ [])) g e → transfer_held x.parts ≡ Some t → GoesPast xs answer →
    is_node b.m b.n t.sender ≡ true → is_node b.m b.n t.receiver ≡ true →
    WantsRoundsAt x.number answer ↔ (Timetabled (kind b.m b.n) b.n b.rounds (transfers b.live ++ (image_transfers xs ++ (t ∷ []))) → ⊥)

-- the seat at the ticket's place; 12 where it is not live
abbrev pub seat_due : Model → List Seat → ℕ → Result (ℕ × ℕ) Refusal
seat_due b ss k = elim (position_of k b.live) [ None ↦ refuse 12 | Some i ↦ Ok ((seat_at ss i).round, (seat_at ss i).spine) ]

-- the kind's header for the two nodes at a place and the spine of their seat
abbrev pub header_at : (ℕ → ℕ → Meaning) → Model → List Seat → ℕ → ℕ × ℕ × ℕ
header_at kind b ss i = (kind b.m b.n).header (transfer_at (transfers b.live) i).sender (transfer_at (transfers b.live) i).receiver (seat_at ss i).spine

-- that of the ticket's place; 12 where it is not live
abbrev pub header_due : (ℕ → ℕ → Meaning) → Model → List Seat → ℕ → Result (ℕ × ℕ × ℕ) Refusal
header_due kind b ss k = elim (position_of k b.live) [ None ↦ refuse 12 | Some i ↦ Ok (header_at kind b ss i) ]

-- a header, walked from the sender at a place, ends at the receiver there with no byte left
abbrev pub EndsAtReceiver : (ℕ → ℕ → Meaning) → Model → ℕ → ℕ × ℕ × ℕ → Type 0
EndsAtReceiver kind b i h = walk (kind b.m b.n) (transfer_at (transfers b.live) i).sender (bytes_of h) ≡ Ok ((transfer_at (transfers b.live) i).receiver, [])

-- the same of the place of a ticket
abbrev pub TicketEndsAtReceiver : (ℕ → ℕ → Meaning) → Model → ℕ → ℕ × ℕ × ℕ → Type 0
TicketEndsAtReceiver kind b k h = (i : ℕ) → position_of k b.live ≡ Some i → EndsAtReceiver kind b i h
