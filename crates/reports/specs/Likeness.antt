-- When two timetables are alike.
use Rattle.std.specs.Prelude.{◌≡◌, ℕ, ◌<◌, List, length, Some, None, Option}
use Rattle.ports.specs.declared.transfer.Transfer.{Transfer}
use Rattle.timetables.specs.declared.seat.Seat.{Seat}
use Rattle.timetables.specs.Loads.{transfer_at}
use Rattle.timetables.specs.Timetables.{seat_at}
use Rattle.bookings.specs.declared.booking.Booking.{Booking}
use Rattle.bookings.specs.Model.{Model, transfers, booking_at, position_of}

-- what a timetable has under a ticket: the transfer and its round; none where the ticket is not live
abbrev pub under_ticket : Model → List Seat → ℕ → Option (Transfer × ℕ)
under_ticket b ss k = elim (position_of k b.live) [ None ↦ None | Some i ↦ Some (transfer_at (transfers b.live) i, (seat_at ss i).round) ]

-- two timetables, each with its seats, have the same under each ticket
unfoldable pub SameUnderTickets : Model → List Seat → Model → List Seat → Type 0
SameUnderTickets b ss c us = (k : ℕ) → under_ticket b ss k ≡ under_ticket c us k

-- they are alike: the sizes agree, the numbers of rounds, and what stands under each ticket
pub record Alike (b : Model) (ss : List Seat) (c : Model) (us : List Seat) : Type 0 where
  pub m : b.m ≡ c.m
  pub n : b.n ≡ c.n
  pub rounds : b.rounds ≡ c.rounds
  pub tickets : SameUnderTickets b ss c us

-- ---- only the contracts of private functions cite what follows

-- two bookings, each with its seat, agree in ticket, nodes and round
pub record SameStanding (x : Booking) (s : Seat) (y : Booking) (u : Seat) : Type 0 where
  pub ticket : x.ticket ≡ y.ticket
  pub sender : x.transfer.sender ≡ y.transfer.sender
  pub receiver : x.transfer.receiver ≡ y.transfer.receiver
  pub round : s.round ≡ u.round

-- the same stands at each place
unfoldable pub SamePlaces : List Booking → List Seat → List Booking → List Seat → Type 0
SamePlaces xs ss ys us = (i : ℕ) → i < length xs → SameStanding (booking_at xs i) (seat_at ss i) (booking_at ys i) (seat_at us i)
