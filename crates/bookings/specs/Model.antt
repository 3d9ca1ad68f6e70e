-- What a book holds, and what fit, book and cancel answer and leave.
use Rattle.std.specs.Prelude.{ℕ, ◌+◌, ◌<◌, ◌≤◌, cond, not, ◌&&◌, List, [], ◌∷◌, ◌++◌, map, length, filter, position, slice_index_or, Some, None, Ok, Err, Bool, Option, Result, nat_eq, nat_le, nat_lt}
use Rattle.crossbar.specs.Refusals.{Refusal, refuse, refuse_node}
use Rattle.ports.specs.declared.transfer.Transfer.{Transfer}
use Rattle.ports.specs.Checks.{lines_fit, nodes_fit}
use Rattle.ports.specs.Nodes.{is_node}
use Rattle.timetables.specs.Loads.{sends, receives, transfer_at}
use Rattle.bookings.specs.declared.booking.Booking.{Booking}

pub record Model : Type 0 where
  -- the sizes of the cabinet
  pub m : ℕ
  pub n : ℕ
  -- the number of rounds
  pub rounds : ℕ
  -- how many tickets have been given
  pub given : ℕ
  -- the live transfers, each under its ticket, in the order in which they were booked
  pub live : List Booking

-- a new book
abbrev pub new_book : Model
new_book = record { m = 1; n = 1; rounds = 1; given = 0; live = [] }

-- the transfers of some bookings, in order
abbrev pub transfers : List Booking → List Transfer
transfers xs = map (λ x. x.transfer) xs

-- the booking at place i
abbrev pub booking_at : List Booking → ℕ → Booking
booking_at xs i = slice_index_or xs i (record { ticket = 0; transfer = record { sender = 0; receiver = 0 } })

-- tickets rise, from 1 at least to the number given at most
pub record Rising (given : ℕ) (xs : List Booking) : Type 0 where
  pub rise : (i j : ℕ) → i < j → j < length xs → (booking_at xs i).ticket < (booking_at xs j).ticket
  pub from : (i : ℕ) → i < length xs → 1 ≤ (booking_at xs i).ticket
  pub upto : (i : ℕ) → i < length xs → (booking_at xs i).ticket ≤ given

-- what a call leaves: `after` where it is accepted, else the book as it was
abbrev pub left_by : {A : Type 0} → Result A Refusal → Model → Model → Model
left_by (Ok a) b after = after
left_by (Err e) b after = b

-- ---- fit: 1, 2, 3, 4, 5

abbrev pub fit_due : Model → Bool → ℕ → ℕ → ℕ → Result (Unit {0}) Refusal
fit_due b served m n rounds =
    cond (lines_fit m)
    (cond (nodes_fit n)
    (cond (nat_le 1 rounds && nat_le rounds 64)
    (cond served
    (cond (nat_eq (length b.live) 0) (Ok tt) (refuse 5)) (refuse 4)) (refuse 3)) (refuse 2)) (refuse 1)

abbrev pub fitted : Model → Bool → ℕ → ℕ → ℕ → Model
fitted b served m n rounds =
    left_by (fit_due b served m n rounds) b (record { m = m; n = n; rounds = rounds; given = b.given; live = b.live })

-- ---- book: 6, 7, 8, 9, 10, 11

-- what is tested of the two nodes
abbrev pub nodes_due : Model → Transfer → Result (Unit {0}) Refusal
nodes_due b t =
    cond (is_node b.m b.n t.sender)
    (cond (is_node b.m b.n t.receiver)
    (cond (nat_lt (sends t.sender (transfers b.live)) b.rounds)
    (cond (nat_lt (receives t.receiver (transfers b.live)) b.rounds) (Ok tt) (refuse_node 9 t.receiver)) (refuse_node 8 t.sender)) (refuse_node 7 t.receiver)) (refuse_node 6 t.sender)

-- then the room for it; the ticket is the next after those given
abbrev pub booking_due : Model → Transfer → Result ℕ Refusal
booking_due b t =
    elim (nodes_due b t) [
      | Err e ↦ Err e
      | Ok _ ↦ cond (nat_lt (length b.live) 1024) (cond (nat_lt b.given 65535) (Ok (b.given + 1)) (refuse 11)) (refuse 10)
    ]

-- the transfer stands last among the live ones, under the next ticket
abbrev pub appended : Model → Transfer → Model
appended b t = record { m = b.m; n = b.n; rounds = b.rounds; given = b.given + 1; live = b.live ++ (record { ticket = b.given + 1; transfer = t } ∷ []) }

abbrev pub booked : Model → Transfer → Model
booked b t = left_by (booking_due b t) b (appended b t)

-- ---- calls with a ticket: 12

abbrev pub has_ticket : ℕ → Booking → Bool
has_ticket k x = nat_eq x.ticket k

-- the position of a ticket among the live transfers, or none
abbrev pub position_of : ℕ → List Booking → Option ℕ
position_of k xs = position (has_ticket k) xs

-- the two nodes of the ticket's transfer; 12 where it is not live
abbrev pub cancel_due : Model → ℕ → Result (ℕ × ℕ) Refusal
cancel_due b k = elim (position_of k b.live) [ None ↦ refuse 12 | Some i ↦ Ok ((transfer_at (transfers b.live) i).sender, (transfer_at (transfers b.live) i).receiver) ]

-- every live transfer but the one under the ticket
abbrev pub cancelled : Model → ℕ → Model
cancelled b k = record { m = b.m; n = b.n; rounds = b.rounds; given = b.given; live = filter (λ x. not (has_ticket k x)) b.live }
