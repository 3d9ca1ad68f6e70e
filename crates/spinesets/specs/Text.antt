-- The sets of the spines as text.
use Rattle.std.specs.Prelude.{ℕ, zero, suc, cond, List, [], ◌++◌, codes, decimal, ◌==◌}
use Rattle.std.specs.List.{flat_map}
use Rattle.spinesets.specs.declared.assigned.Assigned.{Assigned}

-- a transfer in the set of spine j; nothing where it goes by another
abbrev pub member : ℕ → Assigned → List ℕ
member j a = cond (a.spine == j) (codes " " ++ (decimal a.transfer.sender ++ (codes "->" ++ decimal a.transfer.receiver))) []

-- the transfers that go by spine j, in order
abbrev pub members : ℕ → List Assigned → List ℕ
members j xs = flat_map (member j) xs

-- the line of spine j
abbrev pub set_line : ℕ → List Assigned → List ℕ
set_line j xs = codes "spine " ++ (decimal j ++ (codes ":" ++ (members j xs ++ codes "\n")))

-- the lines of the spines below j, in order
abbrev pub sets_text : ℕ → List Assigned → List ℕ
sets_text zero xs = []
sets_text (suc j) xs = sets_text j xs ++ set_line j xs
