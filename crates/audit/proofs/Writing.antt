-- A sheet in a buffer.
use Rattle.std.proofs.Common.{◌≡◌, ℕ, List, ◌++◌, length, take, drop, Ok, Err, Result, IfOk, sym, ap, ◌∙◌, arith}
use Rattle.std.proofs.lemmas.List.{length-append}
use Rattle.std.proofs.Math.Seq.{take-append_seam, drop-append_seam}
use Rattle.crossbar.specs.Refusals.{Refusal, told_by}
use Rattle.cabinet.specs.Wiring.{Meaning}
use Rattle.timetables.specs.declared.seat.Seat.{Seat}
use Rattle.bookings.specs.Model.{Model}
use Rattle.sheets.specs.declared.refusal.SheetRefusal.{SheetRefusal}
use Rattle.sheets.specs.Refusals.{sheet_refusal}
use Rattle.sheets.specs.Sheets.{sheet_text, sheet_due, sheet_left}
use Rattle.audit.specs.declared.call.Answer.TheVariants as answer
use Rattle.audit.specs.Calls.{told_sheet, sheet_in, IsWritten}
use Rattle.audit.specs.Law.{sheet_written}

-- what is told of a sheet, and what is in the buffer, by what is due
module _ (text old : List ℕ) where
  abbrev left : Result ℕ Refusal → List ℕ
  left due = elim due as (λ _. List ℕ) [ Err _ ↦ old | Ok l ↦ text ++ drop l old ]

  abbrev written : Result ℕ Refusal → Result (List ℕ) Refusal
  written due = elim due as (λ _. Result (List ℕ) Refusal) [ Err e ↦ Err e | Ok _ ↦ Ok text ]

  told_at : (r : Result ℕ SheetRefusal) (due : Result ℕ Refusal) (new : List ℕ) → told_by sheet_refusal r ≡ due → new ≡ left due → IfOk r (λ l. length text ≡ l) → told_sheet (sheet_in new) r ≡ written due
  told_at (Ok l) (Ok k) new e f is =
      let same : l ≡ k = cc in
      ap Ok (ap (take l) (f ∙ ap (λ j. text ++ drop j old) (sym same ∙ sym is)) ∙ ap (λ j. take j (text ++ drop (length text) old)) (sym is) ∙ take-append_seam text (drop (length text) old))
  told_at (Ok l) (Err d) new e f is = absurd cc
  told_at (Err d) (Ok k) new e f is = absurd cc
  told_at (Err d) (Err b) new e f is = cc

  kept_at : (r : Result ℕ SheetRefusal) (due : Result ℕ Refusal) (new : List ℕ) → told_by sheet_refusal r ≡ due → new ≡ left due → IfOk r (λ l. length text ≡ l) → IsWritten (answer.Sheet r) old new
  kept_at (Ok l) (Ok k) new e f is =
      let same : l ≡ k = cc in
      let at : new ≡ text ++ drop l old = f ∙ ap (λ j. text ++ drop j old) (sym same) in
      (omega (arith, ap length at, length-append text (drop l old)), ap (drop l) at ∙ ap (λ j. drop j (text ++ drop l old)) (sym is) ∙ drop-append_seam text (drop l old))
  kept_at (Ok l) (Err d) new e f is = absurd cc
  kept_at (Err d) (Ok k) new e f is = absurd cc
  kept_at (Err d) (Err b) new e f is = f

module _ (kind : ℕ → ℕ → Meaning) (b : Model) (ss : List Seat) (k : ℕ) (old new : List ℕ) (r : Result ℕ SheetRefusal) (e : told_by sheet_refusal r ≡ sheet_due b ss k (length old)) (f : new ≡ sheet_left kind b ss k old) (is : IfOk r (λ l. length (sheet_text kind b ss k) ≡ l)) where
  pub sheet_told : told_sheet (sheet_in new) r ≡ sheet_written kind b ss k (length old)
  sheet_told = told_at (sheet_text kind b ss k) old r (sheet_due b ss k (length old)) new e f is

  pub sheet_kept : IsWritten (answer.Sheet r) old new
  sheet_kept = kept_at (sheet_text kind b ss k) old r (sheet_due b ss k (length old)) new e f is
