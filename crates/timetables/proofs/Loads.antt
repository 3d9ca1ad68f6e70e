-- The loads of nodes, by place; the largest of them; and those of one transfer more.
use Rattle.std.proofs.Common.{◌≡◌, ℕ, ◌+◌, ◌<◌, ◌≤◌, max, cond, eqb, ◌⊎◌, ◌↔◌, List, [], ◌∷◌, ◌++◌, map, length, count_by, refl, inl, inr, arith}
use Rattle.std.proofs.lemmas.Bool.{cases_eq, cases_lt}
use Rattle.std.proofs.lemmas.Bool.Decides.{nat_tests}
use Rattle.std.proofs.lemmas.List.Recursion.{max_bounds, max_least}
use Rattle.std.proofs.lemmas.List.Sums.{sum_by_push}
use Rattle.lines.proofs.Swap.{find_at}
use Rattle.lines.proofs.Colour.{deg}
use Rattle.lines.proofs.Pigeon.{deg_pigeon, count_by_cnt}
use Rattle.ports.specs.declared.transfer.Transfer.{Transfer}
use Rattle.timetables.specs.Loads.{sends, receives, LoadsWithin, greatest, largest_load, transfer_at}

-- the end of a transfer is its sender or its receiver
module _ (end : Transfer → ℕ) where
  -- how many of the transfers have the end v
  abbrev pub load : ℕ → List Transfer → ℕ
  load v ts = count_by (λ t. eqb (end t) v) ts

  pub by_place : (v : ℕ) (ts : List Transfer) → load v ts ≡ deg (λ i. end (transfer_at ts i)) (length ts) v
  by_place v ts = count_by_cnt (λ t. eqb (end t) v) ts (record { sender = 0; receiver = 0 })

  -- only the ends that some transfer has count
  load_below : (R : ℕ) (ts : List Transfer) → ((i : ℕ) → i < length ts → load (end (transfer_at ts i)) ts ≤ R) → (v : ℕ) → load v ts ≤ R
  load_below R ts low v =
      let p : ℕ → ℕ = λ i. end (transfer_at ts i) in
      elim (find_at p p (length ts) v v) [
        | inl r ↦ rw (← r.2) (low r.0 r.1)
        | inr free ↦ omega (arith, by_place v ts, deg_pigeon p p (length ts) 0 v (λ i l e. absurd (free i l e e)) (λ i j l _ _ e _. absurd (free i l e e)))
      ]

  load_more : (v : ℕ) (ts : List Transfer) (t : Transfer) → load v (ts ++ (t ∷ [])) ≡ load v ts + cond (eqb (end t) v) 1 0
  load_more v ts t = sum_by_push (λ u. cond (eqb (end u) v) 1 0) ts t

  over : (R : ℕ) (ts : List Transfer) (t : Transfer) → R ≤ load (end t) ts → load (end t) (ts ++ (t ∷ [])) ≤ R → ⊥
  over R ts t full h = grind (arith, nat_tests, load_more (end t) ts t)

  within : (R : ℕ) (ts : List Transfer) (t : Transfer) → load (end t) ts < R → (v : ℕ) → load v ts ≤ R → load v (ts ++ (t ∷ [])) ≤ R
  within R ts t room v h =
      elim (cases_eq (end t) v) [
        | inl e ↦ rw (← e) (grind (arith, nat_tests, load_more (end t) ts t))
        | inr ne ↦ grind (arith, nat_tests, load_more v ts t)
      ]

-- no node's load is above R exactly where the largest load is not
pub loads_largest : (R : ℕ) (ts : List Transfer) → LoadsWithin R ts ↔ (largest_load ts ≤ R)
loads_largest R ts = (
  λ few. max_least all larger refl (λ _ _. refl) ts none R (λ i l. omega (arith, few (transfer_at ts i).sender, few (transfer_at ts i).receiver)),
  λ low v. (load_below (λ t. t.sender) R ts (λ i l. omega (arith, most i l, low)) v, load_below (λ t. t.receiver) R ts (λ i l. omega (arith, most i l, low)) v),
)
  where
    none : Transfer
    none = record { sender = 0; receiver = 0 }

    larger : Transfer → ℕ
    larger t = max (sends t.sender ts) (receives t.receiver ts)

    all : List Transfer → ℕ
    all us = greatest (map larger us)

    most : (i : ℕ) → i < length ts → larger (transfer_at ts i) ≤ largest_load ts
    most i l = max_bounds all larger refl (λ _ _. refl) ts i none l

-- where no load is above R, one transfer more makes one so exactly where its sender or its receiver has R already
pub no_room : (R : ℕ) (ts : List Transfer) (t : Transfer) → LoadsWithin R ts
    → ((R ≤ sends t.sender ts) ⊎ (R ≤ receives t.receiver ts)) ↔ (LoadsWithin R (ts ++ (t ∷ [])) → ⊥)
no_room R ts t few = (
  λ full all. elim full [
    | inl f ↦ over (λ u. u.sender) R ts t f (all t.sender).0
    | inr f ↦ over (λ u. u.receiver) R ts t f (all t.receiver).1
  ],
  λ none. elim (cases_lt (sends t.sender ts) R) [
    | inr f ↦ inl f
    | inl room ↦
        elim (cases_lt (receives t.receiver ts) R) [
          | inr f ↦ inr f
          | inl room' ↦ absurd (none (λ v. (within (λ u. u.sender) R ts t room v (few v).0, within (λ u. u.receiver) R ts t room' v (few v).1)))
        ]
  ],
)
