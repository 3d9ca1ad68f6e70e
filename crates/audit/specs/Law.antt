-- The law of a history, of its calls and their answers alone, in two parts: `Lawful` has what is promised of every call and of
-- every prefix, which is the first calls of the history, from none to all; `Due` settles by the definitions of the calls which
-- values are told. What a book is that agrees with a history stands in States.
use Rattle.std.specs.Prelude.{◌≡◌, ◌≢◌, ℕ, ◌+◌, ◌<◌, ◌≤◌, Bool, true, false, ⊤, ◌↔◌, List, [], ◌∷◌, ◌++◌, length, IfOk, Some, Ok, Err, Result}
use Rattle.std.specs.List.{All}
use Rattle.crossbar.specs.Refusals.{Refusal, refuse}
use Rattle.ports.specs.declared.transfer.Transfer.{Transfer}
use Rattle.ports.specs.Checks.{lines_fit, nodes_fit}
use Rattle.ports.specs.Nodes.{is_node}
use Rattle.cabinet.specs.Wiring.{Meaning}
use Rattle.image.specs.Faults.{Fault}
use Rattle.image.specs.Meaning.{JobImage, MeansTransfers, Reaches}
use Rattle.image.specs.Records.{NumberedRecord, transfer_held}
use Rattle.image.specs.Settled.{transfers_read}
use Rattle.timetables.specs.declared.seat.Seat.{Seat}
use Rattle.timetables.specs.Loads.{largest_load, transfer_at, LoadsWithin, BetweenNodes}
use Rattle.timetables.specs.Timetables.{seat_at}
use Rattle.bookings.specs.Model.{Model, Rising, transfers, booking_at, fit_due, booking_due, cancel_due}
use Rattle.bookings.specs.Loading.{load_due}
use Rattle.book.specs.Calls.{Seated, Delivered, WantsRounds, FullExactly, GoesPast, WantsRoundsAt, LoadFullExactly, LeastExactly, header_at}
use Rattle.sheets.specs.Sheets.{sheet_text, sheet_due}
use Rattle.audit.specs.History.{Asked, fit, book, cancel, load, need, issue, seat, header, sheet, reopen, Told, fit_answer, book_answer, cancel_answer, load_answer, need_answer, issue_answer, seat_answer, header_answer, sheet_answer, reopen_answer, not_permitted, History, is_of_draft, read_book, since_issue, is_draft}

-- ---- what is promised of one call

-- whether an answer is one to this call: of the call's own kind, or that the call is not permitted
abbrev pub is_answer_to : Asked → Told → Bool
is_answer_to (fit _ _ _) (fit_answer _) = true
is_answer_to (book _) (book_answer _) = true
is_answer_to (cancel _) (cancel_answer _) = true
is_answer_to (load _) (load_answer _) = true
is_answer_to need (need_answer _) = true
is_answer_to issue issue_answer = true
is_answer_to (seat _) (seat_answer _) = true
is_answer_to (header _) (header_answer _) = true
is_answer_to (sheet _ _) (sheet_answer _) = true
is_answer_to reopen reopen_answer = true
is_answer_to _ not_permitted = true
is_answer_to _ _ = false

-- an answer for a ticket: what belongs to its place among the live transfers, or 12 where it is not live
pub record IsOfTicket {A : Type 0} (b : Model) (k : ℕ) (at : ℕ → A) (r : Result A Refusal) : Type 0 where
  pub live : (i : ℕ) → i < length b.live → (booking_at b.live i).ticket ≡ k → r ≡ Ok (at i)
  pub not_live : ((i : ℕ) → i < length b.live → (booking_at b.live i).ticket ≢ k) → r ≡ refuse 12

-- the two nodes of the transfer at a place
abbrev pub nodes_at : Model → ℕ → ℕ × ℕ
nodes_at b i = ((transfer_at (transfers b.live) i).sender, (transfer_at (transfers b.live) i).receiver)

-- a booking is refused for want of rounds only where it is between two nodes
abbrev pub NeedsNodes : Model → Transfer → Result ℕ Refusal → Type 0
NeedsNodes b t r = WantsRounds r → (is_node b.m b.n t.sender ≡ true) × (is_node b.m b.n t.receiver ≡ true)

-- an accepted booking tells the next ticket
abbrev pub TellsNext : Model → Result ℕ Refusal → Type 0
TellsNext b r = IfOk r (λ k. k ≡ b.given + 1)

-- a load that is answered by r reaches a booking at the cell c: the chain of the image comes, after some records, to the one of
-- this cell, which holds a transfer between two nodes, and the load is refused neither at the head nor at one of those before it
pub record ReachesBooking (b : Model) (s : JobImage) (r : Result (ℕ × ℕ) Fault) (c : ℕ) : Type 0 where
  pub before : List NumberedRecord
  pub here : NumberedRecord
  pub transfer : Transfer
  -- the cell of `here`, and the index that it holds
  pub last : ℕ
  pub next : ℕ
  pub reaches : Reaches s (before ++ (here ∷ [])) last next
  pub cell : here.number ≡ c
  pub held : transfer_held here.parts ≡ Some transfer
  pub past : GoesPast before r
  pub sender : is_node b.m b.n transfer.sender ≡ true
  pub receiver : is_node b.m b.n transfer.receiver ≡ true

-- a load is refused for want of rounds only at a booking between two nodes that it reaches
abbrev pub StopsAtReached : Model → JobImage → Result (ℕ × ℕ) Fault → Type 0
StopsAtReached b s r = (c : ℕ) → WantsRoundsAt c r → ReachesBooking b s r c

-- an accepted load tells the next ticket and the number of transfers, and the image means exactly these transfers
abbrev pub AddsMeant : Model → JobImage → Result (ℕ × ℕ) Fault → Type 0
AddsMeant b s r =
    IfOk r (λ x. (x ≡ (b.given + 1, length (transfers_read s))) ×
    ((ts : List Transfer) → MeansTransfers s ts ↔ (ts ≡ transfers_read s)))

-- what is promised of an answer: a booking between two nodes, and each one that a load reaches, is refused for want of rounds
-- exactly where no clash-free timetable has room for it, and no other booking is, nor a load elsewhere; an accepted booking tells
-- the next ticket; a cancel tells the two nodes of the ticket's transfer; an accepted load adds what its image means; the number
-- needed is the least that does
abbrev pub IsRight : (ℕ → ℕ → Meaning) → Model → Asked → Told → Type 0
IsRight kind b (book t) (book_answer r) = FullExactly kind b t r × NeedsNodes b t r × TellsNext b r
IsRight kind b (cancel k) (cancel_answer r) = IsOfTicket b k (nodes_at b) r
IsRight kind b (load s) (load_answer r) = LoadFullExactly kind b s r × StopsAtReached b s r × AddsMeant b s r
IsRight kind b need (need_answer k) = LeastExactly kind b k
IsRight kind b _ _ = ⊤

-- what is promised at one call, where `before` are the calls before it with their answers
pub record IsLawfulAnswer (kind : ℕ → ℕ → Meaning) (before : History) (c : Asked) (a : Told) : Type 0 where
  -- the answer is one to this call
  pub own : is_answer_to c a ≡ true
  -- not permitted is answered exactly where the call is not one of the state that the book is in
  pub permitted : (a ≡ not_permitted) ↔ (is_of_draft c ≢ is_draft before)
  -- and any answer is right
  pub right : IsRight kind (read_book before) c a

-- ---- what is promised where the book is a timetable

-- the sheet of a round, written to a buffer of so many bytes; or 13, or 14
abbrev pub sheet_written : (ℕ → ℕ → Meaning) → Model → List Seat → ℕ → ℕ → Result (List ℕ) Refusal
sheet_written kind b ss k room = elim (sheet_due b ss k room) [ Err e ↦ Err e | Ok _ ↦ Ok (sheet_text kind b ss k) ]

-- what a timetable with the seats ss tells is of these seats
abbrev pub IsTold : (ℕ → ℕ → Meaning) → Model → List Seat → Asked → Told → Type 0
IsTold kind b ss (seat k) (seat_answer r) = IsOfTicket b k (λ i. ((seat_at ss i).round, (seat_at ss i).spine)) r
IsTold kind b ss (header k) (header_answer r) = IsOfTicket b k (header_at kind b ss) r
IsTold kind b ss (sheet k room) (sheet_answer r) = r ≡ sheet_written kind b ss k room
IsTold kind b ss _ _ = ⊤

-- the seats are a clash-free timetable of the live transfers, the headers for them lead from senders to receivers, and all
-- that was told since the issue is of these seats
pub record IsTimetable (kind : ℕ → ℕ → Meaning) (b : Model) (ss : List Seat) (since : History) : Type 0 where
  pub clash_free : Seated kind b ss
  pub delivers : Delivered kind b ss
  pub told : All (λ x. IsTold kind b ss x.0 x.1) since

-- ---- what is promised of every prefix

-- the limits of a book
pub record InLimits (served : ℕ → Bool) (b : Model) : Type 0 where
  -- 1 to 32 lines, of 1, 2, 4, 8 or 16 nodes each
  pub lines : lines_fit b.m ≡ true
  pub nodes : nodes_fit b.n ≡ true
  -- 1 to 64 rounds, a number that the round arranger serves
  pub rounds_from : 1 ≤ b.rounds
  pub rounds_to : b.rounds ≤ 64
  pub rounds_served : served b.rounds ≡ true
  -- at most 1,024 live transfers, whose tickets rise, of at most 65,535 that have been given
  pub live_count : length b.live ≤ 1024
  pub rising : Rising b.given b.live
  pub given : b.given ≤ 65535
  -- each is between nodes of the cabinet, and no node sends or receives more of them than there are rounds
  pub between : BetweenNodes b.m b.n (transfers b.live)
  pub loads : LoadsWithin b.rounds (transfers b.live)

-- ---- what is promised of a history

-- what is promised holds of each call, of each prefix after which the book is a timetable, and of each prefix
pub record Lawful (kind : ℕ → ℕ → Meaning) (served : ℕ → Bool) (h : History) : Type 0 where
  pub answers : (before after : History) (c : Asked) (a : Told) →
      h ≡ before ++ ((c, a) ∷ after) → IsLawfulAnswer kind before c a
  pub timetables : (before after since : History) →
      h ≡ before ++ after → since_issue before ≡ Some since →
      (ss : List Seat) × IsTimetable kind (read_book before) ss since
  pub limits : (before after : History) →
      h ≡ before ++ after → InLimits served (read_book before)

-- ---- what is due in a history

-- what a permitted fit, book, cancel, load or need answers, by the tests and the values of the call, where b is the book read
-- off the calls before it; of any other call the promises settle the answer
abbrev pub IsDue : (ℕ → Bool) → Model → Asked → Told → Type 0
IsDue served b (fit m n R) a = a ≡ fit_answer (fit_due b (served R) m n R)
IsDue served b (book t) a = a ≡ book_answer (booking_due b t)
IsDue served b (cancel k) a = a ≡ cancel_answer (cancel_due b k)
IsDue served b (load s) a = a ≡ load_answer (load_due b s)
IsDue served b need a = a ≡ need_answer (largest_load (transfers b.live))
IsDue served b _ a = ⊤

-- each call that the state permits is answered as is due
pub record Due (served : ℕ → Bool) (h : History) : Type 0 where
  pub answers : (before after : History) (c : Asked) (a : Told) →
      h ≡ before ++ ((c, a) ∷ after) → is_of_draft c ≡ is_draft before → IsDue served (read_book before) c a
