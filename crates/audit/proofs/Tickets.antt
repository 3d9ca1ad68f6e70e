-- No load gives more tickets than there are.
use Rattle.std.proofs.Common.{◌≡◌, ℕ, ◌≤◌, List, [], ◌∷◌, Some, None, Ok, Err, Option, Result, refl, arith}
use Rattle.crossbar.specs.Refusals.{Refusal}
use Rattle.ports.specs.declared.transfer.Transfer.{Transfer}
use Rattle.image.specs.Meaning.{JobImage}
use Rattle.image.specs.Records.{NumberedRecord, transfer_held}
use Rattle.image.specs.Settled.{image_reading}
use Rattle.bookings.specs.Loading.{records_booked, reading_booked, image_booked, loaded}
use Rattle.bookings.specs.Model.{Model, booking_due, appended}

-- as many tickets as there are, at most
abbrev GivenWithin : Model → Type 0
GivenWithin b = b.given ≤ 65535

-- an accepted booking finds a ticket left
ticket_left : (b : Model) (t : Transfer) (k : ℕ) → Ok k ≡ booking_due b t → GivenWithin (appended b t)
ticket_left b t k e = grind (arith, e)

-- after the bookings of some records
module _ (d : Model) where
  by_due : (b : Model) (x : NumberedRecord) (xs : List NumberedRecord) (t : Transfer) → GivenWithin b → ((c : Model) → GivenWithin c → Ok d ≡ records_booked c xs → GivenWithin d) →
      Ok d ≡ records_booked b (x ∷ xs) → transfer_held x.parts ≡ Some t → (due : Result ℕ Refusal) → due ≡ booking_due b t → GivenWithin d
  unfolding records_booked
  by_due b x xs t few on e held (Ok k) is = on (appended b t) (ticket_left b t k is) (grind (arith, e, held, is))
  by_due b x xs t few on e held (Err r) is = absurd (grind (arith, e, held, is))

  by_held : (b : Model) (x : NumberedRecord) (xs : List NumberedRecord) → GivenWithin b → ((c : Model) → GivenWithin c → Ok d ≡ records_booked c xs → GivenWithin d) →
      Ok d ≡ records_booked b (x ∷ xs) → (held : Option Transfer) → transfer_held x.parts ≡ held → GivenWithin d
  unfolding records_booked
  by_held b x xs few on e None is = on b few (grind (arith, e, is))
  by_held b x xs few on e (Some t) is = by_due b x xs t few on e is (booking_due b t) refl

  by_records : (xs : List NumberedRecord) (b : Model) → GivenWithin b → Ok d ≡ records_booked b xs → GivenWithin d
  unfolding records_booked
  by_records [] b few e = grind (arith, e, few)
  by_records (x ∷ xs) b few e = by_held b x xs few (by_records xs) e (transfer_held x.parts) refl

pub given_left : (b : Model) (s : JobImage) → GivenWithin b → GivenWithin (loaded b s)
unfolding loaded image_booked reading_booked
given_left b s few = grind (arith, few, λ (d : Model). by_records d (image_reading s).records b few)
