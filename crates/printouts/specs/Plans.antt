-- The book of an image, and what is printed of its timetable.
use Rattle.std.specs.Prelude.{◌≡◌, ℕ, List, [], ◌++◌, Ok, Err, Result, ⊤, codes}
use Rattle.std.specs.List.{flat_map, range_with_len}
use Rattle.failure.specs.declared.Failure.{Failure}
use Rattle.failure.specs.declared.Failure.TheVariants.{Refused, OutOfMemory}
use Rattle.ports.specs.declared.transfer.Transfer.{Transfer}
use Rattle.timetables.specs.declared.seat.Seat.{Seat}
use Rattle.kinds.specs.Folded.{folded}
use Rattle.chain.specs.Served.{chain_serves}
use Rattle.image.specs.declared.head.Head.{Head}
use Rattle.image.specs.Faults.{Fault, fault_text}
use Rattle.image.specs.Images.{opened_due}
use Rattle.image.specs.Meaning.{JobImage, job_image, MeansTransfers}
use Rattle.bookings.specs.Model.{Model, new_book, fit_due, fitted}
use Rattle.bookings.specs.Loading.{load_due, loaded, numbered}
use Rattle.book.specs.Calls.{Seated, Delivered}
use Rattle.sheets.specs.Sheets.{sheet_text}
use Rattle.printouts.specs.declared.refusal.PlanRefusal.{PlanRefusal}
use Rattle.printouts.specs.Faults.{fit_fault, plan_fault}

-- the image of bytes, beside which both texts are empty
abbrev pub bare_image : List ℕ → JobImage
bare_image bytes = job_image bytes [] []

-- the book fitted to the sizes and the number of rounds in a head, which the chain arranger is to serve; or 1 to 5
abbrev pub head_fitted : Model → Head → Result Model Fault
head_fitted b h =
    elim (fit_due b (chain_serves h.rounds) h.sizes.m h.sizes.n h.rounds) [
      | Err e ↦ Err (fit_fault e)
      | Ok _ ↦ Ok (fitted b (chain_serves h.rounds) h.sizes.m h.sizes.n h.rounds)
    ]

-- the same by the head of an image; or 15 or 16
unfoldable pub image_fitted : Model → List ℕ → Result Model Fault
image_fitted b bytes = elim (opened_due bytes) [ Err f ↦ Err f | Ok o ↦ head_fitted b o.head ]

-- a book with the transfers of an image, or the first fault
abbrev pub image_loaded : Model → JobImage → Result Model Fault
image_loaded b s = elim (load_due b s) [ Err f ↦ Err f | Ok _ ↦ Ok (loaded b s) ]

-- the book that is fitted by an image, with its transfers; or the first fault
unfoldable pub planned : Model → List ℕ → Result Model Fault
planned b bytes = elim (image_fitted b bytes) [ Err f ↦ Err f | Ok c ↦ image_loaded c (bare_image bytes) ]

-- the sheets of all rounds, one after the other
unfoldable pub sheets_text : Model → List Seat → List ℕ
sheets_text b ss = flat_map (sheet_text folded b ss) (range_with_len 0 b.rounds)

-- the live transfers of a book are just those that the image means, in their order, under tickets from 1 on
unfoldable pub HoldsMeant : List ℕ → Model → Type 0
HoldsMeant bytes b = (ts : List Transfer) × MeansTransfers (bare_image bytes) ts × (b.live ≡ numbered 1 ts)

-- seats that make a clash-free timetable of a book over the folded kind, with which each header leads to its receiver
unfoldable pub IsFoldedTimetable : Model → List Seat → Type 0
IsFoldedTimetable b ss = Seated folded b ss × Delivered folded b ss

-- what is printed of a book: all sheets of some such seats; or the line of the fault
abbrev pub Printed : List ℕ → Result Model Fault → List ℕ → Type 0
Printed bytes (Ok b) out = HoldsMeant bytes b × ((ss : List Seat) × IsFoldedTimetable b ss × (out ≡ sheets_text b ss))
Printed bytes (Err f) out = out ≡ fault_text f ++ codes "\n"

-- what is printed of an image: a new book is filled with it
unfoldable pub Prints : List ℕ → List ℕ → Type 0
Prints bytes out = Printed bytes (planned new_book bytes) out

-- ---- only the contracts of private functions cite what follows

-- what a step on the way to a timetable comes to: the book that it leaves, or the fault
abbrev pub left_after : Result (Unit {0}) PlanRefusal → Model → Result Model Fault
left_after (Ok _) b = Ok b
left_after (Err e) b = Err (plan_fault e)

-- the refusal of a failure is the fault that is due; want of memory says nothing
abbrev pub TellsFault : Failure PlanRefusal → Result Model Fault → Type 0
TellsFault (Refused e) due = Err (plan_fault e) ≡ due
TellsFault OutOfMemory due = ⊤
