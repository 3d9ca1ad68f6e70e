-- The records that a reader comes to, one after the other.
use Rattle.std.specs.Prelude.{ℕ, zero, suc, Bool, true, false, cond, List, [], ◌∷◌, Some, None, Ok, Err, Option, Result}
use Rattle.image.specs.declared.refusal.Layer.TheVariants.{Record as RecordLayer}
use Rattle.image.specs.declared.refusal.ImageRefusal.{ImageRefusal}
use Rattle.image.specs.declared.record.Record.{Record}
use Rattle.image.specs.declared.records.RecordReader.{RecordReader}
use Rattle.image.specs.Faults.{Fault, fault, image_fault}
use Rattle.image.specs.Images.{Opened}
use Rattle.image.specs.Labels.{is_labelled}
use Rattle.image.specs.Records.{Parts, transfer_cell, note_text, foreign_body, NumberedRecord, parts, record_due}
use Rattle.image.specs.Steps.{State, state, start, step, comes_on, moved}

-- the record, or 22 where it is a transfer whose label is not there
abbrev pub with_label : List ℕ → List ℕ → ℕ → Parts → Result NumberedRecord Fault
with_label job site number (transfer_cell c) =
    cond (is_labelled job site c) (Ok (record { number = number; parts = transfer_cell c })) (Err (fault 22 number RecordLayer))
with_label job site number (note_text t) = Ok (record { number = number; parts = note_text t })
with_label job site number (foreign_body k b) = Ok (record { number = number; parts = foreign_body k b })

-- the record of a cell with its number, or 20, 21 or 22
abbrev pub labelled_due : List ℕ → List ℕ → ℕ → List ℕ → Result NumberedRecord Fault
labelled_due job site number c = elim (record_due number c) [ Ok x ↦ with_label job site number x | Err e ↦ Err e ]

-- the record of the cell that a step comes to
abbrev pub some_record : Result NumberedRecord Fault → Result (Option NumberedRecord) Fault
some_record (Ok x) = Ok (Some x)
some_record (Err e) = Err e

abbrev pub record_of : List ℕ → List ℕ → Result (Option (ℕ × List ℕ)) Fault → Result (Option NumberedRecord) Fault
record_of job site (Ok None) = Ok None
record_of job site (Ok (Some x)) = some_record (labelled_due job site x.0 x.1)
record_of job site (Err e) = Err e

-- what a reader of records knows: the two texts, and what a reader of cells knows
pub record Reader : Type 0 where
  pub job : List ℕ
  pub site : List ℕ
  pub state : State

abbrev pub reader_of : List ℕ → List ℕ → State → Reader
reader_of job site s = record { job = job; site = site; state = s }

abbrev pub reader : RecordReader → Reader
reader r = reader_of r.texts.job.now r.texts.site.now (state r.cells)

-- at the head of an image
abbrev pub reader_at_head : List ℕ → List ℕ → Opened → Reader
reader_at_head job site o = reader_of job site (start o.cells o.head.first)

-- the record that comes next, or none at the end of the chain
unfoldable pub record_step : Reader → Result (Option NumberedRecord) Fault
record_step k = record_of k.job k.site (step k.state)

-- after that: at the record that came, or else where it was
unfoldable pub passed : Reader → Reader
passed k = reader_of k.job k.site (cond (comes_on (record_step k)) (moved k.state) k.state)

-- a step as a caller is told it
abbrev pub told_some : Option (ℕ × Record) → Option NumberedRecord
told_some None = None
told_some (Some x) = Some (record { number = x.0; parts = parts x.1 })

abbrev pub told_next : Result (Option (ℕ × Record)) ImageRefusal → Result (Option NumberedRecord) Fault
told_next (Ok x) = Ok (told_some x)
told_next (Err e) = Err (image_fault e)

-- all that a reader comes to from where it stands: the records in their order, and the fault that it stops at, or none
pub record Reading : Type 0 where
  pub records : List NumberedRecord
  pub stop : Option Fault

-- one record more, before the others
abbrev pub and_record : NumberedRecord → Reading → Reading
and_record x r = record { records = x ∷ r.records; stop = r.stop }

-- no record more
abbrev pub stopped : Option Fault → Reading
stopped e = record { records = []; stop = e }

-- how many cells were not visited
abbrev pub unvisited_count : List Bool → ℕ
unvisited_count [] = 0
unvisited_count (true ∷ bs) = unvisited_count bs
unvisited_count (false ∷ bs) = suc (unvisited_count bs)

-- what it comes to in at most so many steps
unfoldable pub read_in : ℕ → Reader → Reading
read_in zero k = stopped None
read_in (suc n) k =
    elim (record_step k) [ Err e ↦ stopped (Some e) | Ok o ↦ elim o [ None ↦ stopped None | Some x ↦ and_record x (read_in n (passed k)) ] ]

-- what it comes to in all: each step but the last comes to a cell that was not visited before, so that there are never more
unfoldable pub reading : Reader → Reading
reading k = read_in (suc (unvisited_count k.state.visited)) k

-- something made of the records, or the fault
abbrev pub collected : {A : Type 0} → (List NumberedRecord → A) → Reading → Result A Fault
collected f r = elim r.stop [ None ↦ Ok (f r.records) | Some e ↦ Err e ]

-- an answer that tells nothing but a fault
abbrev pub told_check : Result (Unit {0}) ImageRefusal → Result (Unit {0}) Fault
told_check (Ok _) = Ok tt
told_check (Err e) = Err (image_fault e)

abbrev pub checked : Reading → Result (Unit {0}) Fault
checked r = collected (λ _. tt) r
