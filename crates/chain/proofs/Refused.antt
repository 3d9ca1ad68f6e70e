-- Which lines are refused: those with a crowded end, and no others of those that are within bounds.
use Rattle.std.proofs.Common.{◌≡◌, ℕ, Bool, true, List, IsErr, Ok, Err, None, Result, sym, refl, arith}
use Rattle.lines.specs.declared.line.Line.{Line}
use Rattle.lines.specs.declared.refusal.ArrangeRefusal.{ArrangeRefusal}
use Rattle.lines.specs.Lines.{ends, colours}
use Rattle.lines.specs.Refusals.{told, bounds_refusal, refusal_due}
use Rattle.lines.specs.Arrangers.{Arranged}
use Rattle.lines.proofs.Accepted.{accepted, not_refused}
use Rattle.lines.proofs.Exists.{colourable_within}
use Rattle.chain.specs.Colourings.{Crowded}

-- lines that got a proper colouring are not refused
pub arranged_accepted : (served : Bool) (c : ℕ) (ls ms : List Line) → served ≡ true → bounds_refusal ls ≡ None → Arranged c ls ms → refusal_due served c ls ≡ None
arranged_accepted served c ls ms serves bounds a =
    rw serves (not_refused c ls bounds (colourable_within c (ends ls) (colours ms, rw a.same at a.proper)))

-- lines with a crowded end are refused
pub crowd_err : (c : ℕ) (ls : List Line) → Crowded c (ends ls) → {A : Type 0} (r : Result A ArrangeRefusal) → told r ≡ refusal_due true c ls → IsErr r
unfolding Crowded
crowd_err c ls crowd (Ok a) t = absurd (omega (arith, (accepted true c ls (sym t)).within crowd.0 crowd.1, crowd.2))
crowd_err c ls crowd (Err x) t = refl
