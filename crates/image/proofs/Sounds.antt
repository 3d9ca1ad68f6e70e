-- The tests of a length, of a head and of a record say what they are to say.
use Rattle.std.proofs.Common.{◌≡◌, ◌≢◌, ℕ, ◌<◌, ◌≤◌, ◌⊎◌, Bool, true, false, List, eqb, Ok, Err, Decides, inl, inr, ⊎_elim, arith, get_or-take}
use Rattle.std.proofs.lemmas.Bool.{cases_Bool, cases_eq, cases_lt}
use Rattle.std.proofs.lemmas.Bool.Decides.{nat_tests, not_from_Decides}
use Rattle.image.specs.Cells.{byte, is_image_length, is_head}
use Rattle.image.specs.Faults.{Fault}
use Rattle.image.specs.Labels.{is_labelled}
use Rattle.image.specs.Records.{Parts, has_zero_spare}
use Rattle.image.specs.Readings.{labelled_due}
use Rattle.image.specs.Meaning.{IsImageLength, AreZero, IsHead, IsLabelled, HasZeroSpare, IsRecord, is_transfer, is_note, is_foreign, IsUnsound, no_kind, transfer_spare_set, note_spare_set, not_labelled}

pub length_decides : (n : ℕ) → Decides (is_image_length n) (IsImageLength n)
length_decides n = grind (arith, nat_tests)

pub head_decides : (c : List ℕ) → Decides (is_head c) (IsHead c)
head_decides c = grind (arith, nat_tests, get_or-take)

spare_decides : (c : List ℕ) → Decides (has_zero_spare c) (HasZeroSpare c)
spare_decides c = grind (arith, nat_tests)

zero_decides : (c : List ℕ) → Decides (eqb (byte c 1) 0) (AreZero c 1 2)
zero_decides c = grind (arith, nat_tests)

labelled_decides : (job site c : List ℕ) → Decides (is_labelled job site c) (IsLabelled job site c)
labelled_decides job site c = grind (arith, nat_tests)

pub decided : {P : Type 0} (b : Bool) → Decides b P → P ⊎ (P → ⊥)
decided b d = ⊎_elim (λ (t : b ≡ true). inl (d.0 t)) (λ (t : b ≡ false). inr (not_from_Decides b d t)) (cases_Bool b)

no_kind_of : (n : ℕ) → n ≢ 1 → n ≢ 2 → n < 128 → (n ≡ 0) ⊎ ((3 ≤ n) × (n < 128))
no_kind_of n p q r = grind arith

module _ (job site : List ℕ) (i : ℕ) (c : List ℕ) where
  -- what is due for a sound record, and for one that is not
  pub due_record : (x : Parts) → IsRecord job site c x → labelled_due job site i c ≡ Ok (record { number = i; parts = x })
  due_record x (is_transfer k z l) = grind (arith, nat_tests)
  due_record x (is_note k z) = grind (arith, nat_tests)
  due_record x (is_foreign h) = grind (arith, nat_tests)

  pub due_unsound : (f : Fault) → IsUnsound job site i c f → labelled_due job site i c ≡ Err f
  due_unsound f (no_kind h) = grind (arith, nat_tests)
  due_unsound f (transfer_spare_set k n) = grind (arith, nat_tests, spare_decides c)
  due_unsound f (note_spare_set k n) = grind (arith, nat_tests)
  due_unsound f (not_labelled k z n) = grind (arith, nat_tests, labelled_decides)

  -- a cell is a sound record, or something is wrong with it
  pub each_cell : ((x : Parts) × IsRecord job site c x) ⊎ ((f : Fault) × IsUnsound job site i c f)
  each_cell =
      elim (cases_eq (byte c 0) 1) [
        | inl k ↦
            elim (decided _ (spare_decides c)) [
              | inl z ↦ elim (decided _ (labelled_decides job site c)) [ inl l ↦ inl (_, is_transfer k z l) | inr n ↦ inr (_, not_labelled k z n) ]
              | inr n ↦ inr (_, transfer_spare_set k n)
            ]
        | inr a ↦
            elim (cases_eq (byte c 0) 2) [
              | inl k ↦ elim (decided _ (zero_decides c)) [ inl z ↦ inl (_, is_note k z) | inr n ↦ inr (_, note_spare_set k n) ]
              | inr b ↦ elim (cases_lt (byte c 0) 128) [ inl l ↦ inr (_, no_kind (no_kind_of (byte c 0) a b l)) | inr h ↦ inl (_, is_foreign h) ]
            ]
      ]
