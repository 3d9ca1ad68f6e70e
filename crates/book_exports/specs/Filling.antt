-- Turns of a book: the first refusal that is due in them, and what becomes of the bytes.
use Rattle.std.specs.Prelude.{◌≡◌, ℕ, zero, suc, ◌%◌, ◌≤◌, Bool, cond, ◌≢◌, List, [], ◌∷◌, length, Some, None, Ok, Err, Option, Result, ◌==◌}
use Rattle.crossbar.specs.Refusals.{Refusal}
use Rattle.ports.specs.declared.transfer.Transfer.{Transfer}
use Rattle.timetables.specs.declared.seat.Seat.{Seat}
use Rattle.bookings.specs.Model.{Model, fit_due, fitted, booking_due, appended}
use Rattle.bookings.specs.Refusals.{fit_refusal, booking_refusal}
use Rattle.failure.specs.declared.Failure.{Failure}
use Rattle.failure.specs.declared.Failure.TheVariants.{Refused, OutOfMemory}
use Rattle.book_exports.specs.declared.refusal.TurnRefusal.{TurnRefusal}
use Rattle.book_exports.specs.declared.refusal.TurnRefusal.TheVariants.{Fit, Booking}
use Rattle.book_exports.specs.declared.refusal.FillRefusal.{FillRefusal}
use Rattle.book_exports.specs.declared.refusal.FillRefusal.TheVariants.{BrokenTransfer, Turn}
use Rattle.book_exports.specs.Seats.{transfers_in, seats_in, NodesKept}

-- what comes after a call, unless it is refused
abbrev pub and_then : {A B : Type 0} → Result A Refusal → (A → Result B Refusal) → Result B Refusal
and_then (Ok a) f = f a
and_then (Err e) f = Err e

-- the book with all of the transfers booked, one after the other, or the first refusal
unfoldable pub book_all : Model → List Transfer → Result Model Refusal
book_all b [] = Ok b
book_all b (t ∷ ts) = and_then (booking_due b t) (λ _. book_all (appended b t) ts)

-- the book with no transfer live; tickets go on from where they were
abbrev pub emptied : Model → Model
emptied b = record { m = b.m; n = b.n; rounds = b.rounds; given = b.given; live = [] }

-- a turn: all are booked, and all cancelled again
unfoldable pub turned : Model → List Transfer → Result Model Refusal
turned b ts = and_then (book_all b ts) (λ c. Ok (emptied c))

-- so many turns, up to the first refusal
unfoldable pub turns : ℕ → Model → List Transfer → Result Model Refusal
turns zero b ts = Ok b
turns (suc k) b ts = and_then (turns k b ts) (λ c. turned c ts)

-- the sizes and the number of rounds are set, and then come the turns
unfoldable pub filling : Model → Bool → ℕ → ℕ → ℕ → ℕ → List Transfer → Result Model Refusal
filling b served m n rounds times ts =
    and_then (fit_due b served m n rounds) (λ _. turns times (fitted b served m n rounds) ts)

-- the refusal that ends it, or none
abbrev pub refusal_of : {A : Type 0} → Result A Refusal → Option Refusal
refusal_of (Ok _) = None
refusal_of (Err e) = Some e

abbrev pub filling_due : Model → Bool → ℕ → ℕ → ℕ → ℕ → List Transfer → Option Refusal
filling_due b served m n rounds times ts = refusal_of (filling b served m n rounds times ts)

-- every case of the code's enum, by what the book tells
abbrev pub turn_refusal : TurnRefusal → Refusal
turn_refusal (Fit e) = fit_refusal e
turn_refusal (Booking e) = booking_refusal e

-- the bytes are whole transfers with this refusal due, and none changes
pub record Spared (due : List Transfer → Option Refusal) (before after : List ℕ) (e : Refusal) : Type 0 where
  pub whole : length before % 6 ≡ 0
  pub refused : due (transfers_in before) ≡ Some e
  pub same : after ≡ before

-- the bytes are whole transfers with no refusal due; their seats stand in the bytes, unless there was no turn
pub record Filled (due : List Transfer → Option Refusal) (Seated : List Transfer → List Seat → Type 0) (times : ℕ) (before after : List ℕ) : Type 0 where
  pub whole : length before % 6 ≡ 0
  pub accepted : due (transfers_in before) ≡ None
  pub seated : 1 ≤ times → Seated (transfers_in before) (seats_in after)
  pub nodes : NodesKept before after
  pub idle : times ≡ 0 → after ≡ before

-- what an answer says of the bytes before and after; for want of memory no byte changes
abbrev pub Fills : {A : Type 0} → Result A (Failure FillRefusal) → (List Transfer → Option Refusal) → (List Transfer → List Seat → Type 0) → ℕ → List ℕ → List ℕ → Type 0
Fills (Ok _) due Seated times before after = Filled due Seated times before after
Fills (Err (Refused BrokenTransfer)) due Seated times before after = (length before % 6 ≢ 0) × (after ≡ before)
Fills (Err (Refused (Turn e))) due Seated times before after = Spared due before after (turn_refusal e)
Fills (Err OutOfMemory) due Seated times before after = (length before % 6 ≡ 0) × (after ≡ before)

-- the number of a refusal, and 0 for none
abbrev pub number_of : Option Refusal → ℕ
number_of None = 0
number_of (Some e) = e.number

-- the answer, where there is memory: 255 for bytes that are no whole transfers, else the refusal's number or 0
abbrev pub answer_due : (List Transfer → Option Refusal) → List ℕ → ℕ
answer_due due bs = cond (length bs % 6 == 0) (number_of (due (transfers_in bs))) 255

-- what C is told: 0 where the seats stand in the bytes, else the number of the refusal, or 255
abbrev pub fill_code : {A : Type 0} → Result A (Failure FillRefusal) → ℕ
fill_code (Ok _) = 0
fill_code (Err (Refused (Turn e))) = (turn_refusal e).number
fill_code (Err (Refused BrokenTransfer)) = 255
fill_code (Err OutOfMemory) = 255

-- what the code r that C is told says of the bytes before and after
pub record Told (due : List Transfer → Option Refusal) (Seated : List Transfer → List Seat → Type 0) (times : ℕ) (before after : List ℕ) (r : ℕ) : Type 0 where
  -- 255 is also told where there is no memory
  pub answer : r ≢ 255 → r ≡ answer_due due before
  -- where there is a refusal, no byte changes
  pub unchanged : r ≢ 0 → after ≡ before
  pub idle : times ≡ 0 → after ≡ before
  pub seated : r ≡ 0 → 1 ≤ times → Seated (transfers_in before) (seats_in after)
  pub nodes : NodesKept before after
