-- An image whose length and head are right.
use Rattle.std.specs.Prelude.{ℕ, cond, List, length, Some, None, Ok, Err, Option, Result}
use Rattle.image.specs.declared.refusal.Layer.TheVariants.{Image as ImageLayer}
use Rattle.image.specs.declared.refusal.ImageRefusal.{ImageRefusal}
use Rattle.image.specs.declared.head.Head.{Head}
use Rattle.image.specs.declared.opened.Image.{Image}
use Rattle.image.specs.Cells.{cells_of, cell_at, is_image_length, head_of}
use Rattle.image.specs.Faults.{Fault, fault, image_fault}

-- the cells of the image, and what its head says
pub record Opened : Type 0 where
  pub cells : List (List ℕ)
  pub head : Head

abbrev pub opened : Image → Opened
opened i = record { cells = i.cells.now; head = i.head }

-- the image where its first cell says something as a head
abbrev pub headed : List (List ℕ) → Option Head → Result Opened Fault
headed cells None = Err (fault 16 0 ImageLayer)
headed cells (Some head) = Ok (record { cells = cells; head = head })

-- the image of bytes, or 15 or 16
unfoldable pub opened_due : List ℕ → Result Opened Fault
opened_due bytes = cond (is_image_length (length bytes)) (headed (cells_of bytes) (head_of (cell_at (cells_of bytes) 0))) (Err (fault 15 0 ImageLayer))

-- as a caller is told it
abbrev pub told_image : Result Image ImageRefusal → Result Opened Fault
told_image (Ok i) = Ok (opened i)
told_image (Err e) = Err (image_fault e)
