-- What a caller is told of a fault in a load: its number, its node where it is about one, its cell and its layer.
use Rattle.std.specs.Prelude.{ℕ, Ok, Err, Result}
use Rattle.crossbar.specs.Refusals.{Refusal}
use Rattle.image.specs.declared.refusal.Layer.TheVariants.{Image as ImageLayer, Booking as BookingLayer}
use Rattle.image.specs.Faults.{Fault, fault, image_fault}
use Rattle.bookings.specs.declared.refusal.LoadRefusal.{LoadRefusal}
use Rattle.bookings.specs.declared.refusal.LoadRefusal.TheVariants.{Image, Sizes, Booking}
use Rattle.bookings.specs.Refusals.{booking_refusal}

-- a refused booking, as a fault of the record in the cell
abbrev pub booking_fault : ℕ → Refusal → Fault
booking_fault cell e = record { refusal = e; cell = cell; layer = BookingLayer }

-- every case of the code's enum, by its number and its values
abbrev pub load_fault : LoadRefusal → Fault
load_fault (Image e) = image_fault e
load_fault Sizes = fault 17 0 ImageLayer
load_fault (Booking cell e) = booking_fault cell (booking_refusal e)

-- the answer of a load, as a caller is told it
abbrev pub told_load : {A : Type 0} → Result A LoadRefusal → Result A Fault
told_load (Ok a) = Ok a
told_load (Err e) = Err (load_fault e)
