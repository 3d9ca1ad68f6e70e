-- What is read of an image, and that this is just what the image means.
use Rattle.std.specs.Prelude.{◌≡◌, ◌↔◌, List, Some, None, Ok, Err, Result}
use Rattle.ports.specs.declared.transfer.Transfer.{Transfer}
use Rattle.failure.specs.declared.Failure.{Failure}
use Rattle.failure.specs.declared.Failure.TheVariants.{Refused, OutOfMemory}
use Rattle.image.specs.declared.refusal.ImageRefusal.{ImageRefusal}
use Rattle.image.specs.Faults.{Fault, image_fault}
use Rattle.image.specs.Images.{opened_due}
use Rattle.image.specs.Meaning.{JobImage, Means, MeansTransfers, Fails, transfers}
use Rattle.image.specs.Readings.{Reading, reader_at_head, reading, stopped, collected}
use Rattle.image.specs.Records.{NumberedRecord}

-- nothing where the length or the head is wrong, else what a reader comes to from the head on
unfoldable pub image_reading : JobImage → Reading
image_reading s = elim (opened_due s.bytes) [ Err f ↦ stopped (Some f) | Ok o ↦ reading (reader_at_head s.job s.site o) ]

-- the transfers of the records that are read, to the end or up to the first fault
abbrev pub transfers_read : JobImage → List Transfer
transfers_read s = transfers (image_reading s).records

-- the transfers of the records that are read, or the fault
abbrev pub transfers_due : JobImage → Result (List Transfer) Fault
transfers_due s = collected transfers (image_reading s)

-- the image means just the records that are read of it without a fault, and the transfers among them; a fault is told just
-- where that is what is wrong
pub record IsSettled (s : JobImage) : Type 0 where
  pub read : (xs : List NumberedRecord) → Means s xs ↔ (image_reading s ≡ record { records = xs; stop = None })
  pub accepted : (ts : List Transfer) → MeansTransfers s ts ↔ (transfers_due s ≡ Ok ts)
  pub refused : (f : Fault) → Fails s f ↔ (transfers_due s ≡ Err f)

-- what an answer, read by f, says of the image; memory is wanted for only where the image means something
unfoldable pub Tells : {A : Type 0} → JobImage → (A → List Transfer) → Result A (Failure ImageRefusal) → Type 0
Tells s f (Ok a) = MeansTransfers s (f a)
Tells s f (Err (Refused e)) = Fails s (image_fault e)
Tells s f (Err OutOfMemory) = (ts : List Transfer) × MeansTransfers s ts
