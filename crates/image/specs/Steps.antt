-- One step of a reader from cell to cell.
use Rattle.std.specs.Prelude.{ℕ, Bool, true, false, cond, List, length, Some, None, Ok, Err, Option, Result, ◌==◌, nat_le, slice_index_or, slice_set, replicate}
use Rattle.std.specs.Borrow.{Bor}
use Rattle.image.specs.declared.refusal.Layer.TheVariants.{Image}
use Rattle.image.specs.declared.refusal.ImageRefusal.{ImageRefusal}
use Rattle.image.specs.declared.cells.CellReader.{CellReader}
use Rattle.image.specs.Cells.{cell_at, next_index}
use Rattle.image.specs.Faults.{Fault, fault, image_fault}

-- what a reader knows: the cells of the image, which of them were visited, the index to follow, and the cell that holds it
pub record State : Type 0 where
  pub cells : List (List ℕ)
  pub visited : List Bool
  pub holder : ℕ
  pub index : ℕ

abbrev pub state : CellReader → State
state r = record { cells = r.cells.now; visited = r.visited; holder = r.holder; index = r.index }

-- at the head, which holds the index of the first record's cell; no cell was visited
abbrev pub start : List (List ℕ) → ℕ → State
start cells first = record { cells = cells; visited = replicate 2048 false; holder = 0; index = first }

-- the cell that the index names, with its number, or none where the index is 0
abbrev pub step : State → Result (Option (ℕ × List ℕ)) Fault
step s =
    cond (s.index == 0) (Ok None)
    (cond (nat_le (length s.cells) s.index) (Err (fault 18 s.holder Image))
    (cond (slice_index_or s.visited s.index false) (Err (fault 19 s.holder Image))
    (Ok (Some (s.index, cell_at s.cells s.index)))))

-- whether a step comes to something
abbrev pub comes_on : {A : Type 0} → Result (Option A) Fault → Bool
comes_on (Ok (Some _)) = true
comes_on (Ok None) = false
comes_on (Err _) = false

-- at the cell that the index names, which holds these bytes
abbrev pub moved_to : List ℕ → State → State
moved_to c s = record { cells = s.cells; visited = slice_set s.visited s.index true; holder = s.index; index = next_index c }

abbrev pub moved : State → State
moved s = moved_to (cell_at s.cells s.index) s

-- after a step: at the cell that it comes to, or else where it was
unfoldable pub passed_cell : State → State
passed_cell s = cond (comes_on (step s)) (moved s) s

-- a step as a caller is told it
abbrev pub told_cell : Option (ℕ × Bor (List ℕ)) → Option (ℕ × List ℕ)
told_cell None = None
told_cell (Some x) = Some (x.0, x.1.now)

abbrev pub told_step : Result (Option (ℕ × Bor (List ℕ))) ImageRefusal → Result (Option (ℕ × List ℕ)) Fault
told_step (Ok x) = Ok (told_cell x)
told_step (Err e) = Err (image_fault e)
