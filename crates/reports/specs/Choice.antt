-- The best of some records under an order.
use Rattle.std.specs.Prelude.{◌≡◌, ◌⊎◌, Bool, true, not, List, [], Some, None, Option, find, Contains, All}
use Rattle.std.specs.List.{list_all}

-- no record ranks above x
abbrev pub is_topmost : {R : Type 0} → (R → R → Bool) → List R → R → Bool
is_topmost above xs x = list_all (λ y. not (above y x)) xs

-- the first of the records above which none ranks; none where there is no such record
abbrev pub best_due : {R : Type 0} → (R → R → Bool) → List R → Option R
best_due above xs = find (is_topmost above xs) xs

-- what decides it under a total order: it is one of the records, and ranks above every other; or it is none, and there are no
-- records
unfoldable pub IsBest : {R : Type 0} → (R → R → Bool) → List R → Option R → Type 0
IsBest above xs None = xs ≡ []
IsBest above xs (Some x) = Contains xs x × All (λ y. (y ≡ x) ⊎ (above x y ≡ true)) xs
