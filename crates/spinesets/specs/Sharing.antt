-- What it means to share transfers out over the spines.
use Rattle.std.specs.Prelude.{◌≡◌, ℕ, Bool, List, map, Some, None, Ok, Err, vec_items, Result, Vec}
use Rattle.std.specs.declared.alloc.Global.{Global}
use Rattle.lines.specs.declared.line.Line.{Line}
use Rattle.timetables.specs.Stages.{by_line}
use Rattle.lines.specs.Lines.{ends, Proper}
use Rattle.lines.specs.Refusals.{refusal, refusal_due}
use Rattle.failure.specs.declared.Failure.{Failure}
use Rattle.failure.specs.declared.Failure.TheVariants.{Refused, OutOfMemory}
use Rattle.lines.specs.declared.refusal.ArrangeRefusal.{ArrangeRefusal}
use Rattle.spinesets.specs.declared.assigned.Assigned.{Assigned}
use Rattle.ports.specs.declared.transfer.Transfer.{Transfer}

-- transfers as lines from send line to receive line, with n nodes on each
abbrev pub lines_of : ℕ → List Transfer → List Line
lines_of n ts = map (by_line n) ts

abbrev pub transfers_of : List Assigned → List Transfer
transfers_of xs = map (λ a. a.transfer) xs

abbrev pub spines_of : List Assigned → List ℕ
spines_of xs = map (λ a. a.spine) xs

-- each transfer in order has a spine below n, and transfers with a common send line or a common receive line have
-- different ones
pub record Shared (n : ℕ) (ts : List Transfer) (xs : List Assigned) : Type 0 where
  pub same : transfers_of xs ≡ ts
  pub proper : Proper n (ends (lines_of n ts)) (spines_of xs)

-- what is answered: spines where the arranger accepts the lines, else its refusal; for want of memory nothing is said
abbrev pub Shares : Result (Vec Assigned Global) (Failure ArrangeRefusal) → Bool → ℕ → List Transfer → Type 0
Shares (Ok v) served n ts = (refusal_due served n (lines_of n ts) ≡ None) × Shared n ts (vec_items v)
Shares (Err (Refused e)) served n ts = refusal_due served n (lines_of n ts) ≡ Some (refusal e)
Shares (Err OutOfMemory) served n ts = Unit {0}
