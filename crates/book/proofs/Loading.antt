-- When a load wants rounds at a record that it reaches.
use Rattle.std.proofs.Common.{◌≡◌, ℕ, ◌+◌, true, ◌⊎◌, ◌↔◌, List, [], ◌∷◌, ◌++◌, Some, None, Ok, Err, Option, Result, refl, sym, ap, subst, ◌∙◌, inl, inr, arith}
use mathlib.Core.List.{append_assoc}
use Rattle.crossbar.specs.Refusals.{Refusal}
use Rattle.ports.specs.declared.transfer.Transfer.{Transfer}
use Rattle.ports.specs.Checks.{lines_fit, nodes_fit}
use Rattle.cabinet.specs.Wiring.{Meaning}
use Rattle.cabinet.specs.Laws.{Meeting}
use Rattle.timetables.specs.Timetables.{Timetabled}
use Rattle.image.specs.Faults.{Fault}
use Rattle.image.specs.Meaning.{JobImage, IsNotIn, AreApart, transfers as image_transfers}
use Rattle.image.specs.Readings.{Reading, and_record}
use Rattle.image.specs.Records.{NumberedRecord, transfer_held}
use Rattle.image.specs.Settled.{image_reading}
use Rattle.image.proofs.Settled.{reach_begins, read_apart, stop_number}
use Rattle.bookings.specs.Faults.{booking_fault}
use Rattle.bookings.specs.Loading.{record_booked, records_booked, reading_booked, image_booked, load_due, extended}
use Rattle.bookings.specs.Model.{Model, transfers, booking_due, appended}
use Rattle.bookings.proofs.Facts.{Good, good_records, booked_on, refused_there, records_add, booked_or_unfit, accepted_answer, refused_answer, refused_at, booked_after, refused_before, fault_at, transfers_extended}
use Rattle.book.specs.Calls.{WantsRounds, WantsRoundsAt, GoesPast, LoadFullExactly}
use Rattle.book.proofs.Answering.{full_exactly}

-- records that are apart: no later one has the cell of x
apart_after : (xs : List NumberedRecord) (x : NumberedRecord) (ys : List NumberedRecord) → AreApart (xs ++ (x ∷ ys)) → IsNotIn x.number ys
apart_after [] x ys a = a.0
apart_after (z ∷ xs) x ys a = apart_after xs x ys a.1

module _ (b : Model) (s : JobImage) (xs : List NumberedRecord) (x : NumberedRecord) (t : Transfer) (held : transfer_held x.parts ≡ Some t) (ys : List NumberedRecord) (is : (image_reading s).records ≡ xs ++ (x ∷ ys)) where
  -- what is read after x
  abbrev after : Reading
  after = record { records = ys; stop = (image_reading s).stop }

  -- the records before x are booked, and the book is c
  module _ (same : image_booked b s ≡ reading_booked b (image_reading s)) (c : Model) (first : Ok c ≡ records_booked b xs) where
    here : image_booked b s ≡ reading_booked c (and_record x after)
    here = same ∙ booked_after b (image_reading s) xs (x ∷ ys) is c first

    abbrev by_due : Result ℕ Refusal → Result Model Fault
    by_due due = elim due [ Err e ↦ Err (booking_fault x.number e) | Ok _ ↦ Ok (appended c t) ]

    at_record : (due : Result ℕ Refusal) → due ≡ booking_due c t → by_due due ≡ record_booked c x
    at_record due d =
        ap by_due d
        ∙ ap (λ (o : Option Transfer). elim o as (λ _. Result Model Fault) [ None ↦ Ok c | Some u ↦ elim (booking_due c u) as (λ _. Result Model Fault) [ Err e ↦ Err (booking_fault x.number e) | Ok _ ↦ Ok (appended c u) ] ]) (sym held)

    -- a fault that comes after x is told of another cell, or is none of a booking
    not_later : (k : ℕ) → Ok k ≡ booking_due c t → (o : Result Model Fault) → o ≡ image_booked b s → WantsRoundsAt x.number (load_due b s) → ⊥
    not_later k d (Ok e) all w = subst (WantsRoundsAt x.number) (sym (accepted_answer b s e all)) w
    not_later k d (Err f) all w =
        let told : (f.cell ≡ x.number) × ((f.refusal.number ≡ 8) ⊎ (f.refusal.number ≡ 9)) = subst (WantsRoundsAt x.number) (sym (refused_answer b s f all)) w in
        let later : Err f ≡ reading_booked (appended c t) after = all ∙ here ∙ booked_on c after x (appended c t) (at_record (Ok k) d) in
        let apart : IsNotIn x.number ys = apart_after xs x ys (subst AreApart is (read_apart s)) in
        elim (fault_at (appended c t) after f later) [
          | inl n ↦ n (subst (λ i. IsNotIn i ys) (sym told.0) apart)
          | inr stops ↦ let high = stop_number s f stops in elim told.1 [ inl e ↦ absurd (omega (arith, high, e)) | inr e ↦ absurd (omega (arith, high, e)) ]
        ]

    wants : (due : Result ℕ Refusal) → due ≡ booking_due c t → WantsRoundsAt x.number (load_due b s) ↔ WantsRounds due
    wants (Ok k) d = (λ w. not_later k d (image_booked b s) refl w, λ w. absurd w)
    wants (Err e) d =
        let there = refused_there c after x (booking_fault x.number e) (at_record (Err e) d) in
        subst (λ (a : Result (ℕ × ℕ) Fault). WantsRoundsAt x.number a ↔ ((e.number ≡ 8) ⊎ (e.number ≡ 9))) (refused_answer b s (booking_fault x.number e) (sym (here ∙ there)))
        (λ w. w.1, λ w. (refl, w))

-- a load wants rounds at a record exactly where no timetable holds its transfer beside those that are booked before it
module _ (kind : ℕ → ℕ → Meaning) (law : Meeting kind) (b : Model) (s : JobImage) (lines : lines_fit b.m ≡ true) (nodes : nodes_fit b.n ≡ true) (good : Good b) where
  due_full : LoadFullExactly kind b s (load_due b s)
  due_full xs x t g e reach held past sender receiver =
      let begins = reach_begins s (xs ++ (x ∷ [])) g e reach in
      let is = begins.1 ∙ append_assoc xs (x ∷ []) begins.0 in
      elim (booked_or_unfit b s) [
        | inr unfit ↦ let far = subst (GoesPast xs) (sym (refused_answer b s _ (sym unfit))) past in absurd (far.0 refl)
        | inl same ↦ by_first begins.0 is same (records_booked b xs) refl
      ]
    where
      by_first : (ys : List NumberedRecord) → (image_reading s).records ≡ xs ++ (x ∷ ys) → image_booked b s ≡ reading_booked b (image_reading s) → (o : Result Model Fault) → o ≡ records_booked b xs
          → WantsRoundsAt x.number (load_due b s) ↔ (Timetabled (kind b.m b.n) b.n b.rounds (transfers b.live ++ (image_transfers xs ++ (t ∷ []))) → ⊥)
      by_first ys is same (Err f) first =
          let far = subst (GoesPast xs) (sym (refused_answer b s f (refused_before b (image_reading s) xs (x ∷ ys) is f first ∙ sym same))) past in
          absurd (refused_at b xs f first far.1)
      by_first ys is same (Ok d) first =
          let us = image_transfers xs in
          let c = extended b us in
          let booked : Ok c ≡ records_booked b xs = ap Ok (sym (records_add b d xs first)) ∙ first in
          let fine = good_records b c xs booked good in
          let all : transfers c.live ++ (t ∷ []) ≡ transfers b.live ++ (us ++ (t ∷ [])) = ap (λ ts. ts ++ (t ∷ [])) (transfers_extended b.live (b.given + 1) us) ∙ append_assoc (transfers b.live) us (t ∷ []) in
          let at = wants b s xs x t held ys is same c booked (booking_due c t) refl in
          let full = full_exactly kind c t law lines nodes fine.between fine.within sender receiver in
          let so : WantsRounds (booking_due c t) ↔ (Timetabled (kind b.m b.n) b.n b.rounds (transfers b.live ++ (us ++ (t ∷ []))) → ⊥) = subst (λ ts. WantsRounds (booking_due c t) ↔ (Timetabled (kind b.m b.n) b.n b.rounds ts → ⊥)) all full in
          (λ w. so.0 (at.0 w), λ n. at.1 (so.1 n))

  pub load_full_exactly : (a : Result (ℕ × ℕ) Fault) → a ≡ load_due b s → LoadFullExactly kind b s a
  load_full_exactly a e = subst (λ (a : Result (ℕ × ℕ) Fault). LoadFullExactly kind b s a) (sym e) due_full
