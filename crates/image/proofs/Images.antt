-- What is known of an image that was opened.
use Rattle.std.proofs.Common.{◌≡◌, ℕ, Bool, true, false, cond, List, length, Some, None, Ok, Err}
use Rattle.image.specs.declared.refusal.Layer.TheVariants.{Image as ImageLayer}
use Rattle.image.specs.declared.head.Head.{Head}
use Rattle.image.specs.Cells.{cells_of, cell_at, is_image_length, is_head, head_said}
use Rattle.image.specs.Faults.{fault}
use Rattle.image.specs.Images.{Opened, headed, opened_due}

-- its head is what its first cell says
by_tests : (cells : List (List ℕ)) (h : Head) (o : Opened) (long right : Bool) → Ok o ≡ cond long (headed cells (cond right (Some h) None)) (Err (fault 15 0 ImageLayer)) → o.head ≡ h
by_tests cells h o true true e = cc
by_tests cells h o true false e = absurd cc
by_tests cells h o false right e = absurd cc

pub opened_head : (bytes : List ℕ) (o : Opened) → Ok o ≡ opened_due bytes → o.head ≡ head_said (cell_at (cells_of bytes) 0)
unfolding opened_due
opened_head bytes o e = by_tests (cells_of bytes) (head_said (cell_at (cells_of bytes) 0)) o (is_image_length (length bytes)) (is_head (cell_at (cells_of bytes) 0)) e
