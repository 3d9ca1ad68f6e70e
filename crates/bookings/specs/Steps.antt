-- What holds between the steps of a call; only the contracts of private functions cite it.
use Rattle.std.specs.Prelude.{◌≡◌, ℕ, ◌+◌, ◌*◌, ◌<◌, ◌≤◌, List, length, take, Ok, Err, Result}
use Rattle.std.specs.List.{remove}
use Rattle.ports.specs.declared.transfer.Transfer.{Transfer}
use Rattle.timetables.specs.Loads.{sends, receives}
use Rattle.bookings.specs.declared.booking.Booking.{Booking}
use Rattle.image.specs.Faults.{Fault}
use Rattle.bookings.specs.declared.refusal.LoadRefusal.{LoadRefusal}
use Rattle.bookings.specs.Faults.{load_fault}
use Rattle.bookings.specs.Model.{Model, booking_at}

-- the sender and the receiver are nodes; the one sends fewer than R of the transfers, the other receives fewer
pub record Bookable (m n R : ℕ) (ts : List Transfer) (t : Transfer) : Type 0 where
  pub sender : t.sender < m * n
  pub receiver : t.receiver < m * n
  pub sends : sends t.sender ts < R
  pub receives : receives t.receiver ts < R

-- the tickets before the place low are below k, and those from the place high on are not
pub record Split (k : ℕ) (xs : List Booking) (low high : ℕ) : Type 0 where
  pub order : low ≤ high
  pub within : high ≤ length xs
  pub below : (i : ℕ) → i < low → (booking_at xs i).ticket < k
  pub above : (i : ℕ) → high ≤ i → i < length xs → k ≤ (booking_at xs i).ticket

-- without the live transfer at place i
abbrev pub taken_out : Model → ℕ → Model
taken_out b i = record { m = b.m; n = b.n; rounds = b.rounds; given = b.given; live = remove b.live i }

-- the book without the live transfers from a place on, where so many tickets have been given
abbrev pub taken_back : Model → ℕ → ℕ → Model
taken_back b count given = record { m = b.m; n = b.n; rounds = b.rounds; given = given; live = take count b.live }

-- one book comes of another by bookings alone: those of before stand first, and each later one took a ticket
pub record Follows (b c : Model) : Type 0 where
  pub m : c.m ≡ b.m
  pub n : c.n ≡ b.n
  pub rounds : c.rounds ≡ b.rounds
  pub live : take (length b.live) c.live ≡ b.live
  pub given : c.given + length b.live ≡ b.given + length c.live

-- what some bookings come to: the book, or the fault
abbrev pub come_to : Result (Unit {0}) LoadRefusal → Model → Result Model Fault
come_to (Ok _) b = Ok b
come_to (Err e) b = Err (load_fault e)
