-- The calls and the answers of the code, as the law speaks of them.
use Rattle.std.specs.Prelude.{◌≡◌, ℕ, ◌≤◌, List, length, take, drop, Ok, Err, Result}
use Rattle.crossbar.specs.Refusals.{Refusal, told_by}
use Rattle.image.specs.Meaning.{with_texts}
use Rattle.bookings.specs.Refusals.{fit_refusal, booking_refusal, ticket_refusal}
use Rattle.bookings.specs.Faults.{told_load}
use Rattle.sheets.specs.declared.refusal.SheetRefusal.{SheetRefusal}
use Rattle.sheets.specs.Refusals.{sheet_refusal}
use Rattle.audit.specs.declared.call.Call.{Call}
use Rattle.audit.specs.declared.call.Call.TheVariants as call
use Rattle.audit.specs.declared.call.Answer.{Answer}
use Rattle.audit.specs.declared.call.Answer.TheVariants as answer
use Rattle.audit.specs.History.{Asked, fit, book, cancel, load, need, issue, seat, header, sheet, reopen, Told, fit_answer, book_answer, cancel_answer, load_answer, need_answer, issue_answer, seat_answer, header_answer, sheet_answer, reopen_answer, not_permitted}

-- what a call asks, with a buffer of so many bytes: every case of the code's enum, by its values
abbrev pub asked : ℕ → Call → Asked
asked room (call.Fit sizes rounds) = fit sizes.m sizes.n rounds
asked room (call.Book transfer) = book transfer
asked room (call.Cancel ticket) = cancel ticket
asked room (call.Load image texts) = load (with_texts image.now texts)
asked room call.Need = need
asked room call.Issue = issue
asked room (call.Seat ticket) = seat ticket
asked room (call.Header ticket) = header ticket
asked room (call.Sheet round) = sheet round room
asked room call.Reopen = reopen

-- the bytes of a sheet, or its refusal
abbrev pub told_sheet : {S : Type 0} → (S → List ℕ) → Result S SheetRefusal → Result (List ℕ) Refusal
told_sheet bytes (Ok s) = Ok (bytes s)
told_sheet bytes (Err e) = Err (sheet_refusal e)

-- what an answer tells, by the bytes of its sheet: every case of the code's enum, by its values
abbrev pub told : {S : Type 0} → (S → List ℕ) → Answer S → Told
told bytes (answer.Fit r) = fit_answer (told_by fit_refusal r)
told bytes (answer.Book r) = book_answer (told_by booking_refusal r)
told bytes (answer.Cancel r) = cancel_answer (told_by ticket_refusal r)
told bytes (answer.Load r) = load_answer (told_load r)
told bytes (answer.Need rounds) = need_answer rounds
told bytes answer.Issue = issue_answer
told bytes (answer.Seat r) = seat_answer (told_by ticket_refusal r)
told bytes (answer.Header r) = header_answer (told_by ticket_refusal r)
told bytes (answer.Sheet r) = sheet_answer (told_sheet bytes r)
told bytes answer.Reopen = reopen_answer
told bytes answer.NotPermitted = not_permitted

-- the sheet of so many bytes that was written to a buffer
abbrev pub sheet_in : List ℕ → ℕ → List ℕ
sheet_in buffer l = take l buffer

-- the length told of an accepted sheet is within the buffer, and what lies behind it is as it was; after any other answer all of
-- the buffer is
abbrev pub IsWritten : Answer ℕ → List ℕ → List ℕ → Type 0
IsWritten (answer.Sheet (Ok l)) old new = (l ≤ length new) × (drop l new ≡ drop l old)
IsWritten _ old new = new ≡ old

-- a call with its answer, where the buffer is `old` before it and `new` after it
abbrev pub history_entry : Call → Answer ℕ → List ℕ → List ℕ → Asked × Told
history_entry call a old new = (asked (length old) call, told (sheet_in new) a)
