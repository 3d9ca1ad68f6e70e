-- A history: calls of a book with their answers, in order; and what is read off one.
use Rattle.std.specs.Prelude.{ℕ, ◌+◌, Bool, true, false, not, is_some, List, [], ◌∷◌, ◌++◌, length, Some, None, Ok, Option, Result}
use Rattle.crossbar.specs.Refusals.{Refusal}
use Rattle.ports.specs.declared.transfer.Transfer.{Transfer}
use Rattle.image.specs.Faults.{Fault}
use Rattle.image.specs.Meaning.{JobImage}
use Rattle.image.specs.Settled.{transfers_read}
use Rattle.lines.specs.Arrangers.{grown}
use Rattle.bookings.specs.Model.{Model, new_book, cancelled}
use Rattle.bookings.specs.Loading.{numbered}

-- what is asked: a call with its values
pub data Asked : Type 0 where
  -- m, n and R
  fit : ℕ → ℕ → ℕ → Asked
  book : Transfer → Asked
  -- the ticket
  cancel : ℕ → Asked
  load : JobImage → Asked
  need : Asked
  issue : Asked
  -- the ticket
  seat : ℕ → Asked
  -- the ticket
  header : ℕ → Asked
  -- the round, and the length of the buffer
  sheet : ℕ → ℕ → Asked
  reopen : Asked

-- what is told: an answer with its values, a refusal with what goes with it
pub data Told : Type 0 where
  fit_answer : Result (Unit {0}) Refusal → Told
  -- the ticket
  book_answer : Result ℕ Refusal → Told
  -- the two nodes
  cancel_answer : Result (ℕ × ℕ) Refusal → Told
  -- the first ticket, and the number of transfers
  load_answer : Result (ℕ × ℕ) Fault → Told
  -- the number of rounds
  need_answer : ℕ → Told
  issue_answer : Told
  -- the round and the spine
  seat_answer : Result (ℕ × ℕ) Refusal → Told
  -- the three bytes
  header_answer : Result (ℕ × ℕ × ℕ) Refusal → Told
  -- the bytes written
  sheet_answer : Result (List ℕ) Refusal → Told
  reopen_answer : Told
  -- the call is not one of the state that the book is in
  not_permitted : Told

-- the first call comes first
abbrev pub History : Type 0
History = List (Asked × Told)

-- the calls of a draft; the others are calls of a timetable
abbrev pub is_of_draft : Asked → Bool
is_of_draft (seat _) = false
is_of_draft (header _) = false
is_of_draft (sheet _ _) = false
is_of_draft reopen = false
is_of_draft _ = true

-- ---- what is read off

-- the book after a call: a fit that was accepted sets m, n and R; a booking or a load that was accepted puts its transfers
-- last, the first under the ticket told; a cancel that was accepted takes its ticket out; any other answer leaves the book
abbrev pub altered : Model → Asked → Told → Model
altered b (fit m n R) (fit_answer (Ok _)) = record b { m = m; n = n; rounds = R }
altered b (book t) (book_answer (Ok k)) =
    record b { given = b.given + 1; live = b.live ++ (record { ticket = k; transfer = t } ∷ []) }
altered b (cancel k) (cancel_answer (Ok _)) = cancelled b k
altered b (load s) (load_answer (Ok x)) =
    record b { given = b.given + x.1; live = b.live ++ numbered x.0 (transfers_read s) }
altered b _ _ = b

-- the book after some calls, from a book before them
abbrev pub book_from : Model → History → Model
book_from b [] = b
book_from b (x ∷ h) = book_from (altered b x.0 x.1) h

-- the sizes, the rounds, how many tickets have been given, and the live transfers under their tickets
abbrev pub read_book : History → Model
read_book h = book_from new_book h

-- a meter of the book b after a call: an issue grows it by the number of live transfers, up to the number at which it stops
abbrev pub meter_after_call : Model → ℕ → Asked → Told → ℕ
meter_after_call b k issue issue_answer = grown k (length b.live)
meter_after_call b k _ _ = k

-- a meter after some calls, from a book and the meter before them
abbrev pub meter_from : Model → ℕ → History → ℕ
meter_from b k [] = k
meter_from b k (x ∷ h) = meter_from (altered b x.0 x.1) (meter_after_call b k x.0 x.1) h

-- what a meter shows after the calls, where it showed k on the new book
abbrev pub read_meter : ℕ → History → ℕ
read_meter k h = meter_from new_book k h

-- the calls since the issue, with one call more: none where there is no issue, or the book has been reopened
abbrev pub since_after : Option History → Asked → Told → Option History
since_after _ issue issue_answer = Some []
since_after _ reopen reopen_answer = None
since_after (Some h) c a = Some (h ++ ((c, a) ∷ []))
since_after None _ _ = None

-- with some calls more
abbrev pub since_from : Option History → History → Option History
since_from o [] = o
since_from o (x ∷ h) = since_from (since_after o x.0 x.1) h

-- while the book is a timetable, the calls since its issue with their answers; none while it is a draft
abbrev pub since_issue : History → Option History
since_issue h = since_from None h

-- whether the book is a draft after these calls
abbrev pub is_draft : History → Bool
is_draft h = not (is_some (since_issue h))
