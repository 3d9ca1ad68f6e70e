-- How many of some transfers a node sends, and how many it receives.
use Rattle.std.specs.Prelude.{ℕ, ◌*◌, ◌<◌, ◌≤◌, max, List, [], ◌∷◌, map, length, count_by, nat_eq, slice_index_or}
use Rattle.ports.specs.declared.transfer.Transfer.{Transfer}

-- how many of the transfers the node v sends
abbrev pub sends : ℕ → List Transfer → ℕ
sends v ts = count_by (λ t. nat_eq t.sender v) ts

-- how many of them it receives
abbrev pub receives : ℕ → List Transfer → ℕ
receives v ts = count_by (λ t. nat_eq t.receiver v) ts

-- no node sends more than R of the transfers, and none receives more
abbrev pub LoadsWithin : ℕ → List Transfer → Type 0
LoadsWithin R ts = (v : ℕ) → (sends v ts ≤ R) × (receives v ts ≤ R)

-- the greatest of some numbers, 0 of none
abbrev pub greatest : List ℕ → ℕ
greatest [] = 0
greatest (x ∷ xs) = max x (greatest xs)

-- the largest number of the transfers that one node sends or receives, 0 of none
abbrev pub largest_load : List Transfer → ℕ
largest_load ts = greatest (map (λ t. max (sends t.sender ts) (receives t.receiver ts)) ts)

-- the transfer at place i
abbrev pub transfer_at : List Transfer → ℕ → Transfer
transfer_at ts i = slice_index_or ts i (record { sender = 0; receiver = 0 })

-- every sender and every receiver is a node of a cabinet with m lines of n nodes
abbrev pub BetweenNodes : ℕ → ℕ → List Transfer → Type 0
BetweenNodes m n ts = (i : ℕ) → i < length ts → ((transfer_at ts i).sender < m * n) × ((transfer_at ts i).receiver < m * n)
