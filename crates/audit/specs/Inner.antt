-- How a call takes a book from one state to the next, by what the calls of a draft and of a timetable promise. Only the
-- contracts of private functions cite what stands here.
use Rattle.std.specs.Prelude.{◌≡◌, ℕ, Bool, true, false, List, Result}
use Rattle.crossbar.specs.Refusals.{Refusal}
use Rattle.ports.specs.declared.transfer.Transfer.{Transfer}
use Rattle.cabinet.specs.Wiring.{Meaning}
use Rattle.image.specs.Faults.{Fault}
use Rattle.image.specs.Meaning.{JobImage}
use Rattle.timetables.specs.declared.seat.Seat.{Seat}
use Rattle.timetables.specs.Loads.{largest_load}
use Rattle.bookings.specs.Model.{Model, Rising, transfers, fit_due, fitted, booking_due, booked, cancel_due, cancelled}
use Rattle.bookings.specs.Loading.{load_due, Adds}
use Rattle.book.specs.Calls.{Seated, Delivered, FullExactly, LoadFullExactly, LeastExactly, seat_due, header_due}
use Rattle.audit.specs.History.{Asked, fit, book, cancel, load, need, issue, seat, header, sheet, reopen, Told, fit_answer, book_answer, cancel_answer, load_answer, need_answer, issue_answer, seat_answer, header_answer, sheet_answer, reopen_answer, not_permitted, is_of_draft, meter_after_call}
use Rattle.audit.specs.Law.{sheet_written}
use Rattle.audit.specs.States.{State, in_draft, in_timetable, KindAndMeters, kind_with_meters}

-- from the state before a call, with the call and its answer, to the state after it
pub data Step (kind : ℕ → ℕ → Meaning) (served : ℕ → Bool) : State → Asked → Told → State → Type 0 where
  -- a draft; at a cancel the tickets of its live transfers rise
  fits : (b c : Model) (m n R : ℕ) (r : Result (Unit {0}) Refusal) →
      r ≡ fit_due b (served R) m n R → c ≡ fitted b (served R) m n R →
      Step kind served (in_draft b) (fit m n R) (fit_answer r) (in_draft c)
  books : (b c : Model) (t : Transfer) (r : Result ℕ Refusal) →
      r ≡ booking_due b t → c ≡ booked b t → FullExactly kind b t r →
      Step kind served (in_draft b) (book t) (book_answer r) (in_draft c)
  cancels : (b c : Model) (k : ℕ) (r : Result (ℕ × ℕ) Refusal) →
      Rising b.given b.live → r ≡ cancel_due b k → c ≡ cancelled b k →
      Step kind served (in_draft b) (cancel k) (cancel_answer r) (in_draft c)
  loads : (b c : Model) (s : JobImage) (r : Result (ℕ × ℕ) Fault) →
      r ≡ load_due b s → Adds b s r c → LoadFullExactly kind b s r →
      Step kind served (in_draft b) (load s) (load_answer r) (in_draft c)
  needs : (b : Model) (k : ℕ) →
      k ≡ largest_load (transfers b.live) → LeastExactly kind b k →
      Step kind served (in_draft b) need (need_answer k) (in_draft b)
  issues : (b c : Model) (ss : List Seat) →
      c ≡ b → Seated kind b ss → Delivered kind b ss →
      Step kind served (in_draft b) issue issue_answer (in_timetable c ss)
  not_of_draft : (b : Model) (c : Asked) →
      is_of_draft c ≡ false →
      Step kind served (in_draft b) c not_permitted (in_draft b)
  -- a timetable; at a seat and at a header the tickets of its live transfers rise
  seats : (b : Model) (ss : List Seat) (k : ℕ) (r : Result (ℕ × ℕ) Refusal) →
      Rising b.given b.live → r ≡ seat_due b ss k →
      Step kind served (in_timetable b ss) (seat k) (seat_answer r) (in_timetable b ss)
  headers : (b : Model) (ss : List Seat) (k : ℕ) (r : Result (ℕ × ℕ × ℕ) Refusal) →
      Rising b.given b.live → r ≡ header_due kind b ss k →
      Step kind served (in_timetable b ss) (header k) (header_answer r) (in_timetable b ss)
  sheets : (b : Model) (ss : List Seat) (k room : ℕ) (r : Result (List ℕ) Refusal) →
      r ≡ sheet_written kind b ss k room →
      Step kind served (in_timetable b ss) (sheet k room) (sheet_answer r) (in_timetable b ss)
  reopens : (b c : Model) (ss : List Seat) →
      c ≡ b →
      Step kind served (in_timetable b ss) reopen reopen_answer (in_draft c)
  not_of_timetable : (b : Model) (ss : List Seat) (c : Asked) →
      is_of_draft c ≡ true →
      Step kind served (in_timetable b ss) c not_permitted (in_timetable b ss)

-- kind and meters of the book b after one call
abbrev pub kind_and_meters_after : {K : Type 0} → Model → KindAndMeters K → Asked → Told → KindAndMeters K
kind_and_meters_after b p c a =
    kind_with_meters p.kind (meter_after_call b p.round_meter c a) (meter_after_call b p.spine_meter c a)
