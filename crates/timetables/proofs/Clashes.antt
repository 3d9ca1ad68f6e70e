-- By the law of meeting the two stages make a clash-free timetable.
use Rattle.std.proofs.Common.{◌≡◌, ℕ, ◌<◌, true, List, length, inl, inr}
use Rattle.ports.specs.declared.transfer.Transfer.{Transfer}
use Rattle.ports.specs.Checks.{lines_fit, nodes_fit}
use Rattle.cabinet.specs.Wiring.{Meaning}
use Rattle.cabinet.specs.Laws.{Placed, Meeting}
use Rattle.timetables.specs.declared.seat.Seat.{Seat}
use Rattle.timetables.specs.Loads.{transfer_at, BetweenNodes}
use Rattle.timetables.specs.Timetables.{seat_at, ClashFree}
use Rattle.timetables.specs.Stages.{InRounds, OnSpines}

module _ (kind : ℕ → ℕ → Meaning) (m n : ℕ) (ts : List Transfer) (ss : List Seat) (lines : lines_fit m ≡ true) (nodes : nodes_fit n ≡ true) (within : BetweenNodes m n ts) where
  placed : (i : ℕ) → i < length ts → (seat_at ss i).spine < n → Placed m n (transfer_at ts i).sender (transfer_at ts i).receiver (seat_at ss i).spine
  placed i l low = record { lines = lines; nodes = nodes; sender = (within i l).0; receiver = (within i l).1; spine = low }

  -- rounds by node and spines by line leave nothing to clash
  pub clash_free_of : (R : ℕ) → Meeting kind → InRounds R ts ss → OnSpines n R ts ss → ClashFree (kind m n) n R ts ss
  clash_free_of R law rounds spines =
      let low : (i : ℕ) → i < length ts → (seat_at ss i).spine < n = λ i l. spines.below i l (rounds.below i l) in
      record {
        each = rounds.each;
        rounds = rounds.below;
        spines = low;
        apart = λ i j li lj ne same meet. elim ((law m n _ _ _ _ _ _ (placed i li (low i li)) (placed j lj (low j lj))).0 meet) [
          | inl e ↦ (rounds.differ i j li lj ne same).0 e
          | inr (inl e) ↦ (rounds.differ i j li lj ne same).1 e
          | inr (inr h) ↦
              (let differ = spines.differ i j li lj ne (rounds.below i li) same h.0 in
              elim h.1 [ inl e ↦ differ.0 e | inr e ↦ differ.1 e ])
        ];
      }

  -- of one round of a clash-free timetable, senders differ and receivers differ
  pub in_rounds_of : (R : ℕ) → Meeting kind → ClashFree (kind m n) n R ts ss → InRounds R ts ss
  in_rounds_of R law free = record {
    each = free.each;
    below = free.rounds;
    differ = λ i j li lj ne same.
        let by = (law m n _ _ _ _ _ _ (placed i li (free.spines i li)) (placed j lj (free.spines j lj))).1 in
        (λ e. free.apart i j li lj ne same (by (inl e)), λ e. free.apart i j li lj ne same (by (inr (inl e))));
  }
