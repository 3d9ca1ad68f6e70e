-- How many rounds suffice, in any kind in which the law of meeting holds.
use Rattle.std.proofs.Common.{◌≡◌, ℕ, ◌<◌, ◌≤◌, true, ◌⊎◌, ◌↔◌, List, [], ◌∷◌, ◌++◌, arith}
use Rattle.std.proofs.lemmas.Bool.Decides.{nat_tests}
use Rattle.ports.specs.declared.transfer.Transfer.{Transfer}
use Rattle.ports.specs.Checks.{lines_fit, nodes_fit}
use Rattle.cabinet.specs.Wiring.{Meaning}
use Rattle.cabinet.specs.Laws.{Meeting}
use Rattle.timetables.specs.Loads.{sends, receives, LoadsWithin, BetweenNodes}
use Rattle.timetables.specs.Timetables.{Timetabled, RoundsSuffice, LeastRounds}
use Rattle.timetables.proofs.Clashes.{clash_free_of, in_rounds_of}
use Rattle.timetables.proofs.Loads.{loads_largest, no_room}
use Rattle.timetables.proofs.Stages.{loads_of, seats}

pub some_nodes : (n : ℕ) → nodes_fit n ≡ true → 0 < n
some_nodes n h = grind (arith, nat_tests)

module _ (kind : ℕ → ℕ → Meaning) (law : Meeting kind) where
  pub rounds_suffice : RoundsSuffice kind
  rounds_suffice m n R ts lines nodes within = (
    λ h. loads_of R ts h.0 (in_rounds_of kind m n ts h.0 lines nodes within R law h.1),
    λ few. let s = seats n R ts (some_nodes n nodes) few in (s.0, clash_free_of kind m n ts s.0 lines nodes within R law s.1 s.2),
  )

  pub least_rounds : LeastRounds kind
  least_rounds m n R ts lines nodes within =
      let by = rounds_suffice m n R ts lines nodes within in
      (λ h. (loads_largest R ts).0 (by.0 h), λ low. by.1 ((loads_largest R ts).1 low))

  -- where R rounds hold ts, they do not hold t besides exactly where its sender or its receiver has R transfers already
  pub no_timetable : (m n R : ℕ) (ts : List Transfer) (t : Transfer) → lines_fit m ≡ true → nodes_fit n ≡ true → BetweenNodes m n (ts ++ (t ∷ [])) → LoadsWithin R ts
      → ((R ≤ sends t.sender ts) ⊎ (R ≤ receives t.receiver ts)) ↔ (Timetabled (kind m n) n R (ts ++ (t ∷ [])) → ⊥)
  no_timetable m n R ts t lines nodes within few =
      let by = rounds_suffice m n R (ts ++ (t ∷ [])) lines nodes within in
      (λ full h. (no_room R ts t few).0 full (by.0 h), λ none. (no_room R ts t few).1 (λ more. none (by.1 more)))
