-- The example permutation, and what its sets are.
use Rattle.std.specs.Prelude.{◌≡◌, ℕ, ◌⊎◌, List, [], ◌∷◌, Ok, Err, Result}
use Rattle.std.specs.declared.alloc.AllocError.{AllocError}
use Rattle.failure.specs.declared.Failure.{Failure}
use Rattle.failure.specs.declared.Failure.TheVariants.{Refused, OutOfMemory}
use Rattle.lines.specs.declared.refusal.ArrangeRefusal.{ArrangeRefusal}
use Rattle.lines.specs.Arrangers.{grown}
use Rattle.spinesets.specs.declared.assigned.Assigned.{Assigned}
use Rattle.ports.specs.declared.transfer.Transfer.{Transfer}
use Rattle.spinesets.specs.Sharing.{Shared}
use Rattle.spinesets.specs.Text.{sets_text}

abbrev pair : ℕ → ℕ → Transfer
pair s r = record { sender = s; receiver = r }

-- twelve transfers, in which every node of three lines of four nodes sends once and receives once
abbrev pub permutation : List Transfer
permutation =
    pair 0 6 ∷ pair 1 4 ∷ pair 2 11 ∷ pair 3 0 ∷ pair 4 3 ∷ pair 5 1 ∷ pair 6 2 ∷ pair 7 8 ∷ pair 8 5 ∷ pair 9 7 ∷ pair 10 10 ∷ pair 11 9 ∷ []

-- the text of four sets over which the permutation is shared out
abbrev pub ExampleSets : List ℕ → Type 0
ExampleSets text = (xs : List Assigned) × Shared 4 permutation xs × (text ≡ sets_text 4 xs)

-- a meter before and after: it has grown by the twelve transfers where the text is handed out; where there is no memory, it
-- is as it was or has grown by them
abbrev pub ExampleMeter : {A : Type 0} → Result A AllocError → ℕ → ℕ → Type 0
ExampleMeter (Ok _) before after = after ≡ grown before 12
ExampleMeter (Err _) before after = (after ≡ before) ⊎ (after ≡ grown before 12)

-- an error is no refusal
abbrev pub NotRefused : Failure ArrangeRefusal → Type 0
NotRefused (Refused e) = ⊥
NotRefused OutOfMemory = Unit {0}
