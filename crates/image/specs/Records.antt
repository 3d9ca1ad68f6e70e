-- What a record is.
use Rattle.std.specs.Prelude.{ℕ, Bool, ◌&&◌, cond, List, slice_range, Option, Some, None, Ok, Err, Result, ◌==◌, nat_le}
use Rattle.ports.specs.declared.transfer.Transfer.{Transfer}
use Rattle.image.specs.declared.refusal.Layer.TheVariants.{Record as RecordLayer}
use Rattle.image.specs.declared.refusal.ImageRefusal.{ImageRefusal}
use Rattle.image.specs.declared.record.Record.{Record}
use Rattle.image.specs.declared.record.Record.TheVariants.{Transfer as TransferCase, Note, Foreign}
use Rattle.image.specs.Cells.{byte, transfer_of}
use Rattle.image.specs.Faults.{Fault, fault, image_fault}

-- a record by its case, with its part of the image: the cell of a transfer, the text of a note, the kind and the body of a
-- foreign cell
pub data Parts : Type 0 where
  transfer_cell : List ℕ → Parts
  note_text : List ℕ → Parts
  foreign_body : ℕ → List ℕ → Parts

-- a record with the number of its cell
pub record NumberedRecord : Type 0 where
  pub number : ℕ
  pub parts : Parts

-- every case of the code's enum, by its values
abbrev pub parts : Record → Parts
parts (TransferCase cell) = transfer_cell cell.now
parts (Note text) = note_text text.now
parts (Foreign kind body) = foreign_body kind body.now

-- the kind number of each case
abbrev pub kind_of : Parts → ℕ
kind_of (transfer_cell _) = 1
kind_of (note_text _) = 2
kind_of (foreign_body kind _) = kind

-- the transfer of a transfer record
abbrev pub transfer_held : Parts → Option Transfer
transfer_held (transfer_cell c) = Some (transfer_of c)
transfer_held (note_text _) = None
transfer_held (foreign_body _ _) = None

-- an answer as a caller is told it
abbrev pub told_record : Result Record ImageRefusal → Result Parts Fault
told_record (Ok r) = Ok (parts r)
told_record (Err e) = Err (image_fault e)

-- bytes 4 to 15
abbrev pub body_of : List ℕ → List ℕ
body_of c = slice_range c 4 16

-- whether the spare bytes of a transfer's cell are zero
abbrev pub has_zero_spare : List ℕ → Bool
has_zero_spare c = byte c 1 == 0 && (byte c 12 == 0 && (byte c 13 == 0 && (byte c 14 == 0 && byte c 15 == 0)))

-- a transfer, or 21
abbrev pub transfer_due : ℕ → List ℕ → Result Parts Fault
transfer_due number c = cond (has_zero_spare c) (Ok (transfer_cell c)) (Err (fault 21 number RecordLayer))

-- a note, or 21
abbrev pub note_due : ℕ → List ℕ → Result Parts Fault
note_due number c = cond (byte c 1 == 0) (Ok (note_text (body_of c))) (Err (fault 21 number RecordLayer))

-- the record of a cell with its number: kind 1 a transfer, kind 2 a note, 128 and above a foreign cell; or 20 or 21
abbrev pub record_due : ℕ → List ℕ → Result Parts Fault
record_due number c =
    cond (byte c 0 == 1) (transfer_due number c)
    (cond (byte c 0 == 2) (note_due number c)
    (cond (nat_le 128 (byte c 0)) (Ok (foreign_body (byte c 0) (body_of c))) (Err (fault 20 number RecordLayer))))
