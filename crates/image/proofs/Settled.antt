-- The reading of an image ends without a fault exactly where the image means something, and with a fault exactly where that is
-- what is wrong.
use Rattle.std.proofs.Common.{◌≡◌, ℕ, zero, suc, ◌/◌, ◌<◌, ◌≤◌, false, List, ◌++◌, length, get_or, drop, replicate, Some, None, Ok, Err, Option, Result, is_ok, true, refl, sym, ap, subst, ◌∙◌, inl, inr, arith}
use Rattle.std.proofs.Math.ListN.{length-replicate}
use Rattle.std.proofs.lemmas.Bool.{both_ways, true_from_ne_false}
use Rattle.std.specs.Simd.{first_chunks}
use Rattle.image.specs.declared.refusal.Layer.TheVariants.{Image}
use Rattle.image.specs.Cells.{word}
use Rattle.image.specs.Faults.{Fault, fault, image_fault}
use Rattle.image.specs.Readings.{reading, stopped, collected}
use Rattle.image.specs.Images.{opened_due}
use Rattle.image.specs.Records.{NumberedRecord}
use Rattle.image.specs.Settled.{image_reading, transfers_due, IsSettled, Tells}
use Rattle.failure.specs.Failures.{AnswersBy}
use Rattle.failure.specs.declared.Failure.{Failure}
use Rattle.failure.specs.declared.Failure.TheVariants.{Refused, OutOfMemory}
use Rattle.ports.specs.declared.transfer.Transfer.{Transfer}
use Rattle.image.specs.declared.refusal.ImageRefusal.{ImageRefusal}
use Rattle.image.specs.Meaning.{JobImage, cell_count, cell, IsImageLength, IsHead, AreApart, IsUnsound, no_kind, transfer_spare_set, note_spare_set, not_labelled, IsNotIn, Means, MeansTransfers, Reaches, transfers, IsStuck, past_end, visited, unsound, Fails, no_length, no_head, stuck}
use Rattle.image.proofs.Sounds.{length_decides, head_decides, decided}
use Rattle.image.proofs.Walks.{Spot, Steps, at_end, at_past, at_visited, at_unsound, reader_at, Walks, ended, walk_read, walk_begins, read_walk, walk_leads, walk_other, walk_apart, walk_missed, leads_walk}

length_chunks : (w k : ℕ) (bs : List ℕ) → length (first_chunks w k bs) ≡ k
length_chunks w zero bs = refl
length_chunks w (suc k) bs = ap (λ (n : ℕ). suc n) (length_chunks w k (drop w bs))

few_cells : (s : JobImage) → IsImageLength (length s.bytes) → cell_count s ≤ 2048
few_cells s long = omega (arith, length_chunks 16 (length s.bytes / 16) s.bytes, long.most)

none_visited : (n c : ℕ) → get_or (replicate n false) c false ≡ false
none_visited zero c = refl
none_visited (suc n) zero = refl
none_visited (suc n) (suc c) = none_visited n c

module _ (s : JobImage) where
  -- at the head, where no cell is visited
  abbrev at_head : Spot
  at_head = record { visited = replicate 2048 false; holder = 0; index = word (cell s 0) 8; marks = length-replicate 2048 false }

  -- what a reading is to come to
  abbrev IsRight : List NumberedRecord → Option Fault → Type 0
  IsRight xs None = Means s xs
  IsRight xs (Some f) = Fails s f

  -- at the end of a walk from the head a step refuses just what the records are stuck at
  module _ (long : IsImageLength (length s.bytes)) (xs : List NumberedRecord) (q : Spot) (k : Walks s at_head xs q) where
    missed : get_or q.visited q.index false ≡ false → IsNotIn q.index xs
    missed = walk_missed s (few_cells s long) q.index k

    not_passed : IsNotIn q.index xs → get_or q.visited q.index false ≡ false
    not_passed n = walk_other s q.index k n ∙ none_visited 2048 q.index

    stuck_step : (f : Fault) → IsStuck s xs q.holder q.index f → 0 < q.index → Steps s q (Err f)
    stuck_step f (past_end far) some = at_past some far
    stuck_step f (visited low n) some = at_visited some low (true_from_ne_false (get_or q.visited q.index false) (λ t. n (missed t)))
    stuck_step f (unsound u low n is) some = at_unsound u some low (not_passed n) is

    module _ (head : IsHead (cell s 0)) where
      reaches : Reaches s xs q.holder q.index
      reaches = record { long = long; head = head; leads = walk_leads s k; apart = walk_apart s (few_cells s long) k }

      walk_right : (o : Option Fault) → Steps s q (ended s o) → IsRight xs o
      walk_right None (at_end z) = (q.holder, subst (Reaches s xs q.holder) z reaches)
      walk_right (Some f) (at_past some far) = stuck xs _ _ _ reaches some (past_end far)
      walk_right (Some f) (at_visited some low seen) = stuck xs _ _ _ reaches some (visited low (λ n. both_ways (get_or q.visited q.index false) (not_passed n) seen))
      walk_right (Some f) (at_unsound u some low free is) = stuck xs _ _ _ reaches some (unsound u low (missed free) is)

  -- what is read, by length and head
  read_short : (IsImageLength (length s.bytes) → ⊥) → image_reading s ≡ stopped (Some (fault 15 0 Image))
  unfolding image_reading opened_due
  read_short n = grind (arith, length_decides (length s.bytes))

  read_no_head : IsImageLength (length s.bytes) → (IsHead (cell s 0) → ⊥) → image_reading s ≡ stopped (Some (fault 16 0 Image))
  unfolding image_reading opened_due
  read_no_head long n = grind (arith, length_decides (length s.bytes), head_decides (cell s 0))

  read_head : IsImageLength (length s.bytes) → IsHead (cell s 0) → image_reading s ≡ reading (reader_at s at_head)
  unfolding image_reading opened_due
  read_head long head = grind (arith, length_decides (length s.bytes), head_decides (cell s 0))

  -- what is reached is read
  reach_read : (xs : List NumberedRecord) (g e : ℕ) (o : Option Fault) → Reaches s xs g e
      → ((q : Spot) → Walks s at_head xs q → q.holder ≡ g → q.index ≡ e → Steps s q (ended s o)) → image_reading s ≡ record { records = xs; stop = o }
  reach_read xs g e o r t =
      let few = few_cells s r.long in
      let k = leads_walk s few at_head xs g e r.leads r.apart (λ c v. absurd (both_ways _ (none_visited 2048 c) v)) in
      read_head r.long r.head ∙ walk_read s few o k.1 (t k.0 k.1 k.2 k.3)

  -- what is meant is read, what fails is told
  means_read : (xs : List NumberedRecord) → Means s xs → image_reading s ≡ record { records = xs; stop = None }
  means_read xs (g, r) = reach_read xs g 0 None r (λ q k h z. at_end z)

  fails_read : (f : Fault) → Fails s f → (image_reading s).stop ≡ Some f
  fails_read f (no_length n) = ap (λ r. r.stop) (read_short n)
  fails_read f (no_head long n) = ap (λ r. r.stop) (read_no_head long n)
  fails_read f (stuck xs g e u r some t) =
      ap (λ a. a.stop) (reach_read xs g e (Some u) r (λ q k h z. stuck_step r.long xs q k u (rw (← h, ← z) at t) (rw (← z) at some)))

  -- what is read is meant, what is told fails
  read_right : IsRight (image_reading s).records (image_reading s).stop
  read_right =
      elim (decided _ (length_decides (length s.bytes))) [
        | inr n ↦ rw (read_short n) (no_length n)
        | inl long ↦
            elim (decided _ (head_decides (cell s 0))) [
              | inr n ↦ rw (read_no_head long n) (no_head long n)
              | inl head ↦
                  let k = read_walk s (few_cells s long) 2049 at_head (omega arith) in
                  rw (read_head long head) (walk_right long _ k.0 k.1 head _ k.2)
            ]
      ]

  -- what is read begins with what is reached
  pub reach_begins : (xs : List NumberedRecord) (g e : ℕ) → Reaches s xs g e → (ys : List NumberedRecord) × ((image_reading s).records ≡ xs ++ ys)
  reach_begins xs g e r =
      let few = few_cells s r.long in
      let k = leads_walk s few at_head xs g e r.leads r.apart (λ c v. absurd (both_ways _ (none_visited 2048 c) v)) in
      (_, ap (λ a. a.records) (read_head r.long r.head) ∙ walk_begins s few k.1)

  -- no two records that are read have the same cell
  pub read_apart : AreApart (image_reading s).records
  read_apart =
      elim (decided _ (length_decides (length s.bytes))) [
        | inr n ↦ rw (read_short n) tt
        | inl long ↦
            elim (decided _ (head_decides (cell s 0))) [
              | inr n ↦ rw (read_no_head long n) tt
              | inl head ↦
                  let k = read_walk s (few_cells s long) 2049 at_head (omega arith) in
                  rw (read_head long head) (walk_apart s (few_cells s long) k.1)
            ]
      ]

  -- the number of a fault is 15 at least
  unsound_number : (i : ℕ) (c : List ℕ) (f : Fault) → IsUnsound s.job s.site i c f → 15 ≤ f.refusal.number
  unsound_number i c f (no_kind h) = omega arith
  unsound_number i c f (transfer_spare_set k n) = omega arith
  unsound_number i c f (note_spare_set k n) = omega arith
  unsound_number i c f (not_labelled k z n) = omega arith

  stuck_number : (xs : List NumberedRecord) (g e : ℕ) (f : Fault) → IsStuck s xs g e f → 15 ≤ f.refusal.number
  stuck_number xs g e f (past_end far) = omega arith
  stuck_number xs g e f (visited low n) = omega arith
  stuck_number xs g e f (unsound u low n is) = unsound_number e (cell s e) u is

  fail_number : (f : Fault) → Fails s f → 15 ≤ f.refusal.number
  fail_number f (no_length n) = omega arith
  fail_number f (no_head long n) = omega arith
  fail_number f (stuck xs g e u r some t) = stuck_number xs g e u t

  pub stop_number : (f : Fault) → (image_reading s).stop ≡ Some f → 15 ≤ f.refusal.number
  stop_number f e = fail_number f (subst (IsRight (image_reading s).records) e read_right)

  -- what is made of a reading tells how it ends
  collected_ok : (xs : List NumberedRecord) (o : Option Fault) (ts : List Transfer) → collected transfers (record { records = xs; stop = o }) ≡ Ok ts → (o ≡ None) × (transfers xs ≡ ts)
  collected_ok xs None ts e = (refl, cc)
  collected_ok xs (Some f) ts e = absurd cc

  collected_err : (xs : List NumberedRecord) (o : Option Fault) (f : Fault) → collected transfers (record { records = xs; stop = o }) ≡ Err f → o ≡ Some f
  collected_err xs None f e = absurd cc
  collected_err xs (Some g) f e = cc

  means_transfers : (ts : List Transfer) → transfers_due s ≡ Ok ts → MeansTransfers s ts
  means_transfers ts e =
      let k = collected_ok (image_reading s).records (image_reading s).stop ts e in
      ((image_reading s).records, subst (IsRight (image_reading s).records) k.0 read_right, k.1)

  pub settled : IsSettled s
  settled = record {
    read = λ xs. (means_read xs, λ e. rw e at read_right);
    accepted = λ ts. ((λ m. ap (collected transfers) (means_read m.0 m.1) ∙ ap Ok m.2), means_transfers ts);
    refused = λ f. (
      (λ t. ap (λ o. elim o as (λ _. Result (List Transfer) Fault) [ None ↦ Ok (transfers (image_reading s).records) | Some e ↦ Err e ]) (fails_read f t)),
      (λ e. subst (IsRight (image_reading s).records) (collected_err (image_reading s).records (image_reading s).stop f e) read_right),
    );
  }

  -- what an answer that is due says of the image
  some_due : (d : Result (List Transfer) Fault) → transfers_due s ≡ d → is_ok d ≡ true → (ts : List Transfer) × MeansTransfers s ts
  some_due (Ok ts) e t = (ts, means_transfers ts e)
  some_due (Err f) e t = absurd cc

  pub tells : {A : Type 0} (f : A → List Transfer) (r : Result A (Failure ImageRefusal)) → AnswersBy image_fault f r (transfers_due s) → Tells s f r
  unfolding Tells
  tells f (Ok a) h = let k = settled.accepted (f a) in k.1 (sym h)
  tells f (Err (Refused e)) h = let k = settled.refused (image_fault e) in k.1 (sym h)
  tells f (Err OutOfMemory) h = some_due (transfers_due s) refl h
