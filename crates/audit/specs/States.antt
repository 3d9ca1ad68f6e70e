-- What a book is, in either state, and when it agrees with a history: it holds what is read off the calls and their answers, and
-- its kind and its meters are those read off.
use Rattle.std.specs.Prelude.{◌≡◌, ℕ, List, Some, None, Option}
use Rattle.cabinet.specs.Wiring.{Meaning}
use Rattle.timetables.specs.declared.seat.Seat.{Seat}
use Rattle.bookings.specs.Model.{Model}
use Rattle.book.specs.declared.draft.Draft.{Draft as DraftBook}
use Rattle.book.specs.declared.timetable.Timetable.{Timetable as TimetableBook}
use Rattle.book.specs.Books.{drafted, issued, seats}
use Rattle.audit.specs.declared.states.Book.{Book}
use Rattle.audit.specs.declared.states.Book.TheVariants.{Draft, Timetable}
use Rattle.audit.specs.History.{History, read_book, read_meter, since_issue}
use Rattle.audit.specs.Law.{IsTimetable}

-- a book in either state, by what it holds
pub data State : Type 0 where
  in_draft : Model → State
  -- with the seats of the live transfers
  in_timetable : Model → List Seat → State

-- the state of a book of the code
abbrev pub state_of : {K A B : Type 0} {k a b : _} → Book K A B k a b → State
state_of (Draft d) = in_draft (drafted d)
state_of (Timetable t) = in_timetable (issued t) (seats t)

-- the sizes, the rounds, the tickets given and the live transfers
abbrev pub book_of : State → Model
book_of (in_draft b) = b
book_of (in_timetable b ss) = b

-- the kind of a book, and what the meters of its two arrangers show
pub record KindAndMeters (K : Type 0) : Type 0 where
  pub kind : K
  pub round_meter : ℕ
  pub spine_meter : ℕ

-- a kind with two meters, by what they show
abbrev pub kind_with_meters : {K : Type 0} → K → ℕ → ℕ → KindAndMeters K
kind_with_meters kind round_meter spine_meter = record { kind = kind; round_meter = round_meter; spine_meter = spine_meter }

-- those of a draft, and those of a timetable, by what the meters of the two types of arrangers show
abbrev pub draft_kind_and_meters : {K A B : Type 0} {k a b : _} → (A → ℕ) → (B → ℕ) → DraftBook K A B k a b → KindAndMeters K
draft_kind_and_meters round_shows spine_shows d =
    kind_with_meters d.kind (round_shows d.round_arranger) (spine_shows d.spine_arranger)

abbrev pub timetable_kind_and_meters : {K A B : Type 0} {k a b : _} → (A → ℕ) → (B → ℕ) → TimetableBook K A B k a b → KindAndMeters K
timetable_kind_and_meters round_shows spine_shows t =
    kind_with_meters t.kind (round_shows t.round_arranger) (spine_shows t.spine_arranger)

-- those of a book of the code
abbrev pub kind_and_meters : {K A B : Type 0} {k a b : _} → (A → ℕ) → (B → ℕ) → Book K A B k a b → KindAndMeters K
kind_and_meters round_shows spine_shows (Draft d) = draft_kind_and_meters round_shows spine_shows d
kind_and_meters round_shows spine_shows (Timetable t) = timetable_kind_and_meters round_shows spine_shows t

-- what is read off all calls of a history, from those of the new book: the kind stays, and each meter counts
abbrev pub read_kind_and_meters : {K : Type 0} → KindAndMeters K → History → KindAndMeters K
read_kind_and_meters first h = kind_with_meters first.kind (read_meter first.round_meter h) (read_meter first.spine_meter h)

-- a draft where there is no issue, or it has been reopened; else a timetable: its seats are clash-free, their headers arrive, and
-- all that was told since the issue is of them
abbrev pub AgreesSinceIssue : (ℕ → ℕ → Meaning) → State → Option History → Type 0
AgreesSinceIssue kind (in_draft b) o = o ≡ None
AgreesSinceIssue kind (in_timetable b ss) o = (since : History) × (o ≡ Some since) × IsTimetable kind b ss since

-- a book with this state, this kind and these meters agrees with a history, where `first` are kind and meters of the new book
pub record AgreesWith {K : Type 0} (kind : ℕ → ℕ → Meaning) (first : KindAndMeters K) (h : History) (s : State) (p : KindAndMeters K) : Type 0 where
  -- it holds what is read off the calls and their answers
  pub book : book_of s ≡ read_book h
  pub since : AgreesSinceIssue kind s (since_issue h)
  -- its kind is that of the new book, and its meters show what is read off
  pub kind_and_meters : p ≡ read_kind_and_meters first h

-- a book of the code agrees with a history
abbrev pub Agrees : {K A B : Type 0} {k a b : _} → (ℕ → ℕ → Meaning) → (A → ℕ) → (B → ℕ) → KindAndMeters K → History → Book K A B k a b → Type 0
Agrees kind round_shows spine_shows first h book =
    AgreesWith kind first h (state_of book) (kind_and_meters round_shows spine_shows book)
