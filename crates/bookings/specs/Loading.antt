-- What a load answers and leaves.
use Rattle.std.specs.Prelude.{◌≡◌, ℕ, ◌+◌, Bool, ◌&&◌, cond, List, [], ◌∷◌, ◌++◌, length, Some, None, Ok, Err, Result, ◌==◌}
use Rattle.ports.specs.declared.transfer.Transfer.{Transfer}
use Rattle.image.specs.declared.head.Head.{Head}
use Rattle.image.specs.declared.refusal.Layer.TheVariants.{Image as ImageLayer}
use Rattle.image.specs.Faults.{Fault, fault}
use Rattle.image.specs.Images.{opened_due}
use Rattle.image.specs.Meaning.{JobImage, MeansTransfers}
use Rattle.image.specs.Readings.{Reading}
use Rattle.image.specs.Records.{NumberedRecord, transfer_held}
use Rattle.image.specs.Settled.{image_reading, transfers_read}
use Rattle.bookings.specs.declared.booking.Booking.{Booking}
use Rattle.bookings.specs.Faults.{booking_fault}
use Rattle.bookings.specs.Model.{Model, booking_due, appended}

-- the book with one record more: a transfer is booked, anything else changes nothing
abbrev pub record_booked : Model → NumberedRecord → Result Model Fault
record_booked b x =
    elim (transfer_held x.parts) [
      | None ↦ Ok b
      | Some t ↦ elim (booking_due b t) [ Err e ↦ Err (booking_fault x.number e) | Ok _ ↦ Ok (appended b t) ]
    ]

-- with some records more, one after the other, or the first refusal of a booking among them
unfoldable pub records_booked : Model → List NumberedRecord → Result Model Fault
records_booked b [] = Ok b
records_booked b (x ∷ xs) = elim (record_booked b x) [ Err f ↦ Err f | Ok c ↦ records_booked c xs ]

-- with all that is read of an image; where the reading stops at a fault, that comes after the bookings before it
unfoldable pub reading_booked : Model → Reading → Result Model Fault
reading_booked b r = elim (records_booked b r.records) [ Err f ↦ Err f | Ok c ↦ elim r.stop [ Some f ↦ Err f | None ↦ Ok c ] ]

-- whether m, n and R in the head are those of the book
abbrev pub is_head_of : Model → Head → Bool
is_head_of b h = h.sizes.m == b.m && (h.sizes.n == b.n && h.rounds == b.rounds)

-- the book with the transfers of an image, or the first fault: 15, 16, 17, and then record after record
unfoldable pub image_booked : Model → JobImage → Result Model Fault
image_booked b s =
    elim (opened_due s.bytes) [
      | Err f ↦ Err f
      | Ok o ↦ cond (is_head_of b o.head) (reading_booked b (image_reading s)) (Err (fault 17 0 ImageLayer))
    ]

-- the answer: the first ticket, which is the next after those given, and the number of transfers booked
unfoldable pub load_due : Model → JobImage → Result (ℕ × ℕ) Fault
load_due b s = elim (image_booked b s) [ Err f ↦ Err f | Ok _ ↦ Ok (b.given + 1, length (transfers_read s)) ]

-- the book after it: a refused load changes nothing
unfoldable pub loaded : Model → JobImage → Model
loaded b s = elim (image_booked b s) [ Err _ ↦ b | Ok c ↦ c ]

-- ---- the same by what the image means

-- transfers under tickets from k on
abbrev pub numbered : ℕ → List Transfer → List Booking
numbered k [] = []
numbered k (t ∷ ts) = record { ticket = k; transfer = t } ∷ numbered (k + 1) ts

-- the book with transfers more, under the next tickets
abbrev pub extended : Model → List Transfer → Model
extended b ts =
    record { m = b.m; n = b.n; rounds = b.rounds; given = b.given + length ts; live = b.live ++ numbered (b.given + 1) ts }

-- an accepted load adds exactly the transfers that the image means, in their order, under tickets from the one answered on; a
-- refused one adds nothing
unfoldable pub Adds : Model → JobImage → Result (ℕ × ℕ) Fault → Model → Type 0
Adds b s (Ok a) c = (ts : List Transfer) × MeansTransfers s ts × (a ≡ (b.given + 1, length ts)) × (c ≡ extended b ts)
Adds b s (Err f) c = c ≡ b
