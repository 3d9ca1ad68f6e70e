-- A reading, one record after the other.
use Rattle.std.proofs.Common.{◌≡◌, ℕ, zero, suc, ◌<◌, ◌≤◌, Bool, true, false, cond, List, [], ◌∷◌, length, get_or, set, Some, None, Ok, Err, Option, Result, nat_le, ◌==◌, refl, sym, ap, subst, ◌∙◌, arith}
use Rattle.std.proofs.lemmas.Bool.{both_ways, leb-false}
use Rattle.image.specs.declared.refusal.Layer.TheVariants.{Image}
use Rattle.image.specs.Cells.{cell_at}
use Rattle.image.specs.Steps.{comes_on, moved}
use Rattle.image.specs.Faults.{Fault, fault}
use Rattle.image.specs.Records.{NumberedRecord}
use Rattle.image.specs.Readings.{Reading, Reader, reader_of, some_record, labelled_due, record_of, record_step, passed, unvisited_count, read_in, reading, stopped, and_record}

-- a mark more is one cell less that was not visited
more : (b : Bool) (bs cs : List Bool) → unvisited_count bs ≡ suc (unvisited_count cs) → unvisited_count (b ∷ bs) ≡ suc (unvisited_count (b ∷ cs))
more true bs cs h = h
more false bs cs h = ap suc h

pub one_less : (bs : List Bool) (i : ℕ) → i < length bs → get_or bs i false ≡ false → unvisited_count bs ≡ suc (unvisited_count (set bs i true))
one_less [] i h e = absurd (omega arith)
one_less (true ∷ bs) zero h e = absurd (both_ways true e refl)
one_less (false ∷ bs) zero h e = refl
one_less (b ∷ bs) (suc i) h e = more b bs (set bs i true) (one_less bs i (omega arith) e)

module _ (k : Reader) where
  -- a record is read from a cell of the image that was not visited
  abbrev pub WasFree : Type 0
  WasFree = (k.state.index < length k.state.cells) × (get_or k.state.visited k.state.index false ≡ false)

  abbrev pub IsFree : Result (Option NumberedRecord) Fault → Type 0
  IsFree (Ok (Some _)) = WasFree
  IsFree (Ok None) = Unit {0}
  IsFree (Err _) = Unit {0}

  at_cell : (r : Result NumberedRecord Fault) → WasFree → IsFree (some_record r)
  at_cell (Ok _) h = h
  at_cell (Err _) h = tt

  by_tests : (b₁ b₂ b₃ : Bool) → nat_le (length k.state.cells) k.state.index ≡ b₂ → get_or k.state.visited k.state.index false ≡ b₃
      → IsFree (record_of k.job k.site (cond b₁ (Ok None) (cond b₂ (Err (fault 18 k.state.holder Image)) (cond b₃ (Err (fault 19 k.state.holder Image)) (Ok (Some (k.state.index, cell_at k.state.cells k.state.index)))))))
  by_tests true b₂ b₃ e₂ e₃ = tt
  by_tests false true b₃ e₂ e₃ = tt
  by_tests false false true e₂ e₃ = tt
  by_tests false false false e₂ e₃ = at_cell (labelled_due k.job k.site k.state.index (cell_at k.state.cells k.state.index)) (leb-false _ _ e₂, e₃)

  pub was_free : IsFree (record_step k)
  unfolding record_step
  was_free = by_tests (k.state.index == 0) _ _ refl refl

  -- after a step that comes to a record the reader is at the cell of it
  pub moves : (x : NumberedRecord) → record_step k ≡ Ok (Some x) → passed k ≡ reader_of k.job k.site (moved k.state)
  unfolding passed
  moves x e = ap (λ o. reader_of k.job k.site (cond (comes_on o) (moved k.state) k.state)) e

  -- a cell less is left to visit
  pub fewer : (x : NumberedRecord) → record_step k ≡ Ok (Some x) → length k.state.visited ≡ 2048 → length k.state.cells ≤ 2048 → unvisited_count k.state.visited ≡ suc (unvisited_count (passed k).state.visited)
  fewer x e marks few =
      let free : IsFree (Ok (Some x)) = subst IsFree e was_free in
      one_less k.state.visited k.state.index (omega (arith, marks, few, free.0)) free.1 ∙ ap (λ q. suc (unvisited_count q.state.visited)) (sym (moves x e))

  -- the reading from where a step comes to
  abbrev pub onward : Result (Option NumberedRecord) Fault → Reading
  onward (Ok (Some x)) = and_record x (reading (passed k))
  onward (Ok None) = stopped None
  onward (Err f) = stopped (Some f)

  module _ (marks : length k.state.visited ≡ 2048) (few : length k.state.cells ≤ 2048) where
    by_step : (o : Result (Option NumberedRecord) Fault) → record_step k ≡ o → (elim o [ Err e ↦ stopped (Some e) | Ok a ↦ elim a [ None ↦ stopped None | Some x ↦ and_record x (read_in (unvisited_count k.state.visited) (passed k)) ] ]) ≡ onward o
    unfolding reading
    by_step (Ok (Some x)) e = ap (λ n. and_record x (read_in n (passed k))) (fewer x e marks few)
    by_step (Ok None) e = refl
    by_step (Err f) e = refl

    -- a reading begins with what its first step comes to
    pub read_once : reading k ≡ onward (record_step k)
    unfolding reading read_in
    read_once = by_step (record_step k) refl
