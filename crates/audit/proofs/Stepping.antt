-- What a step answers and leaves, by the history before it.
use Rattle.std.proofs.Common.{◌≡◌, ◌≢◌, ℕ, ◌+◌, ◌<◌, Bool, true, false, not, is_some, ◌↔◌, List, [], ◌∷◌, ◌++◌, length, Some, None, Ok, Err, Option, Result, sym, refl, ap, ◌∙◌, inl, inr, subst, arith}
use Rattle.std.proofs.lemmas.List.Elements.{All-nil, All-push}
use Rattle.crossbar.specs.Refusals.{Refusal, refuse}
use Rattle.ports.specs.declared.transfer.Transfer.{Transfer}
use Rattle.cabinet.specs.Wiring.{Meaning}
use Rattle.image.specs.Faults.{Fault}
use Rattle.image.specs.Meaning.{JobImage, MeansTransfers, transfers as image_transfers}
use Rattle.image.specs.Readings.{Reading}
use Rattle.image.specs.Settled.{transfers_read}
use Rattle.image.proofs.Settled.{settled}
use Rattle.timetables.specs.declared.seat.Seat.{Seat}
use Rattle.bookings.specs.Model.{Model, Rising, new_book, booking_at, position_of, booking_due, left_by, appended, cancel_due, cancelled}
use Rattle.bookings.specs.Loading.{Adds, extended, load_due, numbered}
use Rattle.bookings.proofs.Facts.{place_found, place_here, differ, without_none}
use Rattle.audit.specs.History.{Asked, fit, book, cancel, load, need, issue, seat, header, sheet, reopen, Told, fit_answer, book_answer, cancel_answer, load_answer, need_answer, issue_answer, seat_answer, header_answer, sheet_answer, reopen_answer, not_permitted, History, is_of_draft, altered, book_from, read_book, meter_after_call, meter_from, since_after, since_from, since_issue, is_draft}
use Rattle.audit.specs.Law.{is_answer_to, TellsNext, ReachesBooking, StopsAtReached, AddsMeant, IsDue, IsRight, IsLawfulAnswer, IsOfTicket, IsTold, IsTimetable, InLimits, Lawful, Due}
use Rattle.audit.specs.States.{State, in_draft, in_timetable, book_of, KindAndMeters, read_kind_and_meters, AgreesSinceIssue, AgreesWith}
use Rattle.audit.specs.Inner.{kind_and_meters_after, Step, fits, books, cancels, loads, needs, issues, not_of_draft, seats, headers, sheets, reopens, not_of_timetable}
use Rattle.audit.proofs.Pushing.{last_or_before, whole_or_before}
use Rattle.audit.proofs.Stopping.{booking_stops, load_stops}

-- ---- the steps of a draft, and those of a timetable

pub ruleset a_draft = (fits, books, cancels, loads, needs, issues, not_of_draft)

pub ruleset a_timetable = (seats, headers, sheets, reopens, not_of_timetable)

-- ---- what is read off a history with one call more

book_push : (b : Model) (h : History) (c : Asked) (a : Told) → book_from b (h ++ ((c, a) ∷ [])) ≡ altered (book_from b h) c a
book_push b [] c a = refl
book_push b (x ∷ h) c a = book_push (altered b x.0 x.1) h c a

meter_push : (b : Model) (k : ℕ) (h : History) (c : Asked) (a : Told) → meter_from b k (h ++ ((c, a) ∷ [])) ≡ meter_after_call (book_from b h) (meter_from b k h) c a
meter_push b k [] c a = refl
meter_push b k (x ∷ h) c a = meter_push (altered b x.0 x.1) (meter_after_call b k x.0 x.1) h c a

since_push : (o : Option History) (h : History) (c : Asked) (a : Told) → since_from o (h ++ ((c, a) ∷ [])) ≡ since_after (since_from o h) c a
since_push o [] c a = refl
since_push o (x ∷ h) c a = since_push (since_after o x.0 x.1) h c a

-- ---- what a ticket tells

-- an accepted booking is told the next ticket
next_ticket : (b : Model) (t : Transfer) (k : ℕ) → Ok k ≡ booking_due b t → k ≡ b.given + 1
next_ticket b t k e = grind (arith, e)

next_told : (b : Model) (t : Transfer) (r : Result ℕ Refusal) → r ≡ booking_due b t → TellsNext b r
next_told b t (Ok k) e = next_ticket b t k e
next_told b t (Err f) e = tt

-- a ticket that stands somewhere is found there
found : (b : Model) (k : ℕ) → Rising b.given b.live → (i : ℕ) → i < length b.live → (booking_at b.live i).ticket ≡ k → position_of k b.live ≡ Some i
found b k rising i l e = place_here b.given k b.live rising i l (λ j m is. differ b.given b.live rising i j l (omega arith) (λ z. omega arith) (is ∙ sym e)) e

module _ {A : Type 0} (b : Model) (k : ℕ) (due : ℕ → A) where
  abbrev placed : Option ℕ → Result A Refusal
  placed o = elim o [ None ↦ refuse 12 | Some i ↦ Ok (due i) ]

  nowhere : (o : Option ℕ) → position_of k b.live ≡ o → ((i : ℕ) → i < length b.live → (booking_at b.live i).ticket ≢ k) → placed o ≡ refuse 12
  nowhere None e none = refl
  nowhere (Some i) e none = let p = place_found k i b.live e in absurd (none i p.0 p.1)

  of_ticket : (r : Result A Refusal) → Rising b.given b.live → r ≡ placed (position_of k b.live) → IsOfTicket b k due r
  of_ticket r rising is = record {
    live = λ i l e. is ∙ ap placed (found b k rising i l e);
    not_live = λ none. is ∙ nowhere (position_of k b.live) refl none;
  }

-- ---- what a step answers

-- the law at one call, by the book and whether it is a draft
record At (kind : ℕ → ℕ → Meaning) (served : ℕ → Bool) (b : Model) (d : Bool) (c : Asked) (a : Told) : Type 0 where
  own : is_answer_to c a ≡ true
  permitted : (a ≡ not_permitted) ↔ (is_of_draft c ≢ d)
  right : IsRight kind b c a
  due : is_of_draft c ≡ d → IsDue served b c a

abbrev draft_of : State → Bool
draft_of (in_draft b) = true
draft_of (in_timetable b ss) = false

permitted : (a : Told) (d : Bool) → a ≢ not_permitted → (a ≡ not_permitted) ↔ (d ≢ d)
permitted a d n = (λ e. absurd (n e), λ ne. absurd (ne refl))

-- being not permitted is an answer to any call
not_own : (c : Asked) → is_answer_to c not_permitted ≡ true
not_own need = refl
not_own _ = refl

-- nothing is promised of not being permitted
not_right : (kind : ℕ → ℕ → Meaning) (b : Model) (c : Asked) → IsRight kind b c not_permitted
not_right kind b need = tt
not_right kind b _ = tt

-- what an image means is what is read of it
meant : (s : JobImage) (ts : List Transfer) → MeansTransfers s ts → ts ≡ transfers_read s
meant s ts m = sym (ap (λ (r : Reading). image_transfers r.records) (((settled s).read m.0).0 m.1) ∙ m.2)

adds_meant : (b c : Model) (s : JobImage) (r : Result (ℕ × ℕ) Fault) → Adds b s r c → AddsMeant b s r
unfolding Adds
adds_meant b c s (Ok x) (ts, means, is, after) =
    let e = meant s ts means in
    (is ∙ ap (λ us. (b.given + 1, length us)) e, λ us. (meant s us, λ f. subst (MeansTransfers s) (e ∙ sym f) means))
adds_meant b c s (Err f) h = tt

load_stops_at : (b : Model) (s : JobImage) (r : Result (ℕ × ℕ) Fault) → r ≡ load_due b s → StopsAtReached b s r
load_stops_at b s (Ok x) e c wants = absurd wants
load_stops_at b s (Err f) e c (at, wants) = subst (ReachesBooking b s (Err f)) at (load_stops b s f e wants)

module _ (kind : ℕ → ℕ → Meaning) (served : ℕ → Bool) where
  -- a call of the other state
  stopped : (b : Model) (d : Bool) (c : Asked) → is_of_draft c ≢ d → At kind served b d c not_permitted
  stopped b d c ne = record {
    own = not_own c;
    permitted = (λ _. ne, λ _. refl);
    right = not_right kind b c;
    due = λ is. absurd (ne is);
  }

  at_step : (s : State) (c : Asked) (a : Told) (t : State) → Step kind served s c a t → At kind served (book_of s) (draft_of s) c a
  at_step _ _ _ _ (fits b c m n R r e left) = record { own = refl; permitted = permitted _ true (λ z. cc); right = tt; due = λ _. ap fit_answer e }
  at_step _ _ _ _ (books b c t r e left full) = record { own = refl; permitted = permitted _ true (λ z. cc); right = (full, booking_stops b t r e, next_told b t r e); due = λ _. ap book_answer e }
  at_step _ _ _ _ (cancels b c k r rising e left) = record { own = refl; permitted = permitted _ true (λ z. cc); right = of_ticket b k _ r rising e; due = λ _. ap cancel_answer e }
  at_step _ _ _ _ (loads b c s r e adds full) = record { own = refl; permitted = permitted _ true (λ z. cc); right = (full, load_stops_at b s r e, adds_meant b c s r adds); due = λ _. ap load_answer e }
  at_step _ _ _ _ (needs b k e least) = record { own = refl; permitted = permitted _ true (λ z. cc); right = least; due = λ _. ap need_answer e }
  at_step _ _ _ _ (issues b c ss e free delivers) = record { own = refl; permitted = permitted _ true (λ z. cc); right = tt; due = λ _. tt }
  at_step _ _ _ _ (not_of_draft b c e) = stopped b true c (λ z. cc)
  at_step _ _ _ _ (seats b ss k r rising e) = record { own = refl; permitted = permitted _ false (λ z. cc); right = tt; due = λ _. tt }
  at_step _ _ _ _ (headers b ss k r rising e) = record { own = refl; permitted = permitted _ false (λ z. cc); right = tt; due = λ _. tt }
  at_step _ _ _ _ (sheets b ss k room r e) = record { own = refl; permitted = permitted _ false (λ z. cc); right = tt; due = λ _. tt }
  at_step _ _ _ _ (reopens b c ss e) = record { own = refl; permitted = permitted _ false (λ z. cc); right = tt; due = λ _. tt }
  at_step _ _ _ _ (not_of_timetable b ss c e) = stopped b false c (λ z. cc)

-- ---- what a step leaves

-- a book after an answer, as it is read off the answer
altered_fit : (b c : Model) (m n R : ℕ) (r : Result (Unit {0}) Refusal) → c ≡ left_by r b (record b { m = m; n = n; rounds = R }) → c ≡ altered b (fit m n R) (fit_answer r)
altered_fit b c m n R (Ok u) e = e
altered_fit b c m n R (Err f) e = e

altered_book : (b c : Model) (t : Transfer) (r : Result ℕ Refusal) → r ≡ booking_due b t → c ≡ left_by r b (appended b t) → c ≡ altered b (book t) (book_answer r)
altered_book b c t (Ok k) e h =
    let is = next_ticket b t k e in
    h ∙ ap (λ j. record b { given = b.given + 1; live = b.live ++ (record { ticket = j; transfer = t } ∷ []) }) (sym is)
altered_book b c t (Err f) e h = h

-- a ticket that is not live takes nothing out
unplaced : (o : Option ℕ) (nodes : ℕ → ℕ × ℕ) (f : Refusal) → Err f ≡ (elim o as (λ _. Result (ℕ × ℕ) Refusal) [ None ↦ refuse 12 | Some i ↦ Ok (nodes i) ]) → None ≡ o
unplaced None nodes f e = refl
unplaced (Some i) nodes f e = absurd cc

altered_cancel : (b c : Model) (k : ℕ) (r : Result (ℕ × ℕ) Refusal) → r ≡ cancel_due b k → c ≡ cancelled b k → c ≡ altered b (cancel k) (cancel_answer r)
altered_cancel b c k (Ok x) e h = h
altered_cancel b c k (Err f) e h = h ∙ ap (λ xs. record b { live = xs }) (sym (without_none k b.live (unplaced (position_of k b.live) _ f e)))

altered_load : (b c : Model) (s : JobImage) (r : Result (ℕ × ℕ) Fault) → Adds b s r c → c ≡ altered b (load s) (load_answer r)
unfolding Adds
altered_load b c s (Ok x) (ts, means, is, after) =
    let e = meant s ts means in
    after ∙ ap (extended b) e ∙ ap (λ (y : ℕ × ℕ). record b { given = b.given + y.1; live = b.live ++ numbered y.0 (transfers_read s) }) (sym (is ∙ ap (λ us. (b.given + 1, length us)) e))
altered_load b c s (Err f) h = h

-- a call that is not permitted leaves the book, and the state that it is in
not_altered : (b : Model) (c : Asked) → b ≡ altered b c not_permitted
not_altered b need = refl
not_altered b _ = refl

not_since : (since : History) (c : Asked) → since_after (Some since) c not_permitted ≡ Some (since ++ ((c, not_permitted) ∷ []))
not_since since need = refl
not_since since _ = refl

not_since_none : (c : Asked) → since_after None c not_permitted ≡ None
not_since_none need = refl
not_since_none _ = refl

-- and it is about no seat
not_told : (kind : ℕ → ℕ → Meaning) (b : Model) (ss : List Seat) (c : Asked) → IsTold kind b ss c not_permitted
not_told kind b ss need = tt
not_told kind b ss _ = tt

-- what was told since an issue, and one answer more
told_push : (kind : ℕ → ℕ → Meaning) (b : Model) (ss : List Seat) (since : History) (c : Asked) (a : Told) → IsTimetable kind b ss since → IsTold kind b ss c a → IsTimetable kind b ss (since ++ ((c, a) ∷ []))
told_push kind b ss since c a h is = record {
  clash_free = h.clash_free;
  delivers = h.delivers;
  told = All-push (λ x. IsTold kind b ss x.0 x.1) since (c, a) h.told is;
}

since_more : (kind : ℕ → ℕ → Meaning) (b : Model) (ss : List Seat) (o : Option History) (c : Asked) (a : Told) → ((since : History) → since_after (Some since) c a ≡ Some (since ++ ((c, a) ∷ []))) → IsTold kind b ss c a → AgreesSinceIssue kind (in_timetable b ss) o → AgreesSinceIssue kind (in_timetable b ss) (since_after o c a)
since_more kind b ss o c a more is (since, e, h) = (since ++ ((c, a) ∷ []), ap (λ p. since_after p c a) e ∙ more since, told_push kind b ss since c a h is)

module _ (kind : ℕ → ℕ → Meaning) (served : ℕ → Bool) where
  book_left : (s : State) (c : Asked) (a : Told) (t : State) → Step kind served s c a t → book_of t ≡ altered (book_of s) c a
  book_left _ _ _ _ (fits b c m n R r e left) = altered_fit b c m n R r (left ∙ ap (λ x. left_by x b (record b { m = m; n = n; rounds = R })) (sym e))
  book_left _ _ _ _ (books b c t r e left full) = altered_book b c t r e (left ∙ ap (λ x. left_by x b (appended b t)) (sym e))
  book_left _ _ _ _ (cancels b c k r rising e left) = altered_cancel b c k r e left
  book_left _ _ _ _ (loads b c s r e adds full) = altered_load b c s r adds
  book_left _ _ _ _ (needs b k e least) = refl
  book_left _ _ _ _ (issues b c ss e free delivers) = e
  book_left _ _ _ _ (not_of_draft b c e) = not_altered b c
  book_left _ _ _ _ (seats b ss k r rising e) = refl
  book_left _ _ _ _ (headers b ss k r rising e) = refl
  book_left _ _ _ _ (sheets b ss k room r e) = refl
  book_left _ _ _ _ (reopens b c ss e) = e
  book_left _ _ _ _ (not_of_timetable b ss c e) = not_altered b c

  since_left : (s : State) (c : Asked) (a : Told) (t : State) (o : Option History) → Step kind served s c a t → AgreesSinceIssue kind s o → AgreesSinceIssue kind t (since_after o c a)
  since_left _ _ _ _ o (fits b c m n R r e left) h = ap (λ p. since_after p (fit m n R) (fit_answer r)) h
  since_left _ _ _ _ o (books b c t r e left full) h = ap (λ p. since_after p (book t) (book_answer r)) h
  since_left _ _ _ _ o (cancels b c k r rising e left) h = ap (λ p. since_after p (cancel k) (cancel_answer r)) h
  since_left _ _ _ _ o (loads b c s r e adds full) h = ap (λ p. since_after p (load s) (load_answer r)) h
  since_left _ _ _ _ o (needs b k e least) h = ap (λ p. since_after p need (need_answer k)) h
  since_left _ _ _ _ o (issues b c ss e free delivers) h =
      let P : Model → Type 0 = λ x. IsTimetable kind x ss [] in
      ([], ap (λ p. since_after p issue issue_answer) h, subst P (sym e) (record { clash_free = free; delivers = delivers; told = All-nil (λ x. IsTold kind b ss x.0 x.1) }))
  since_left _ _ _ _ o (not_of_draft b c e) h = ap (λ p. since_after p c not_permitted) h ∙ not_since_none c
  since_left _ _ _ _ o (seats b ss k r rising e) h = since_more kind b ss o (seat k) (seat_answer r) (λ since. refl) (of_ticket b k _ r rising e) h
  since_left _ _ _ _ o (headers b ss k r rising e) h = since_more kind b ss o (header k) (header_answer r) (λ since. refl) (of_ticket b k _ r rising e) h
  since_left _ _ _ _ o (sheets b ss k room r e) h = since_more kind b ss o (sheet k room) (sheet_answer r) (λ since. refl) e h
  since_left _ _ _ _ o (reopens b c ss e) h = ap (λ p. since_after p reopen reopen_answer) h.1
  since_left _ _ _ _ o (not_of_timetable b ss c e) h = since_more kind b ss o c not_permitted (λ since. not_since since c) (not_told kind b ss c) h

-- ---- a history with one call more

draft_is : (kind : ℕ → ℕ → Meaning) (s : State) (o : Option History) → AgreesSinceIssue kind s o → draft_of s ≡ not (is_some o)
draft_is kind (in_draft b) o is = sym (ap (λ p. not (is_some p)) is)
draft_is kind (in_timetable b ss) o (since, e, h) = sym (ap (λ p. not (is_some p)) e)

-- at a place at which the book is a timetable, it has its seats
timetable_at : (kind : ℕ → ℕ → Meaning) (h : History) (s : State) → book_of s ≡ read_book h → AgreesSinceIssue kind s (since_issue h) → (since : History) → since_issue h ≡ Some since → (ss : List Seat) × IsTimetable kind (read_book h) ss since
timetable_at kind h (in_draft b) _ is since e = let z : ◌≡◌ {A = Option History} None (Some since) = sym is ∙ e in absurd cc
timetable_at kind h (in_timetable b ss) is (since, e, t) xs f =
    let z : ◌≡◌ {A = Option History} (Some since) (Some xs) = sym e ∙ f in
    let same : since ≡ xs = cc in
    (ss, subst (λ c. IsTimetable kind c ss xs) is (subst (IsTimetable kind b ss) same t))

-- kind and meters read off a history with one call more
kind_and_meters_push : {K : Type 0} (first : KindAndMeters K) (h : History) (c : Asked) (a : Told) → read_kind_and_meters first (h ++ ((c, a) ∷ [])) ≡ kind_and_meters_after (read_book h) (read_kind_and_meters first h) c a
kind_and_meters_push first h c a = rw (meter_push new_book first.round_meter h c a, meter_push new_book first.spine_meter h c a)

module _ {K : Type 0} (kind : ℕ → ℕ → Meaning) (served : ℕ → Bool) (first : KindAndMeters K) (h : History) (s t : State) (g : KindAndMeters K) (c : Asked) (a : Told) (is : AgreesWith kind first h s g) (step : Step kind served s c a t) where
  -- the law at the call
  at : At kind served (read_book h) (is_draft h) c a
  at = subst (λ d. At kind served (read_book h) d c a) (draft_is kind s (since_issue h) is.since) (subst (λ b. At kind served b (draft_of s) c a) is.book (at_step kind served s c a t step))

  -- the book after it
  book_then : book_of t ≡ read_book (h ++ ((c, a) ∷ []))
  book_then = book_left kind served s c a t step ∙ ap (λ b. altered b c a) is.book ∙ sym (book_push new_book h c a)

  open_then : AgreesSinceIssue kind t (since_issue (h ++ ((c, a) ∷ [])))
  open_then = subst (AgreesSinceIssue kind t) (sym (since_push None h c a)) (since_left kind served s c a t (since_issue h) step is.since)

  pub agrees_push : (after : KindAndMeters K) → after ≡ kind_and_meters_after (book_of s) g c a → AgreesWith kind first (h ++ ((c, a) ∷ [])) t after
  agrees_push after e = record {
    book = book_then;
    since = open_then;
    kind_and_meters = e ∙ ap (λ b. kind_and_meters_after b g c a) is.book ∙ ap (λ x. kind_and_meters_after (read_book h) x c a) is.kind_and_meters ∙ sym (kind_and_meters_push first h c a);
  }

  -- what is promised of a history that is one call longer
  pub lawful_push : InLimits served (book_of t) → Lawful kind served h → Lawful kind served (h ++ ((c, a) ∷ []))
  lawful_push limits law = record {
    answers = λ before after d u e. elim (last_or_before h (c, a) before after (d, u) e) [
      | inl p ↦ (let same : (d, u) ≡ (c, a) = p.1 in
          let here : IsLawfulAnswer kind h c a = record { own = at.own; permitted = at.permitted; right = at.right } in
          subst (λ xs. IsLawfulAnswer kind xs d u) (sym p.0) (subst (λ (x : Asked × Told). IsLawfulAnswer kind h x.0 x.1) (sym same) here))
      | inr p ↦ law.answers before p.0 d u p.1
    ];
    timetables = λ before after since e f. elim (whole_or_before h (c, a) before after e) [
      | inl p ↦ timetable_at kind before t (subst (λ xs. book_of t ≡ read_book xs) (sym p) book_then) (subst (λ xs. AgreesSinceIssue kind t (since_issue xs)) (sym p) open_then) since f
      | inr p ↦ law.timetables before p.0 since p.1 f
    ];
    limits = λ before after e. elim (whole_or_before h (c, a) before after e) [
      | inl p ↦ subst (λ xs. InLimits served (read_book xs)) (sym p) (subst (InLimits served) book_then limits)
      | inr p ↦ law.limits before p.0 p.1
    ];
  }

  -- and what is due
  pub due_push : Due served h → Due served (h ++ ((c, a) ∷ []))
  due_push due = record {
    answers = λ before after d u e. elim (last_or_before h (c, a) before after (d, u) e) [
      | inl p ↦ (let same : (d, u) ≡ (c, a) = p.1 in
          let P : History → Asked × Told → Type 0 = λ xs x. is_of_draft x.0 ≡ is_draft xs → IsDue served (read_book xs) x.0 x.1 in
          subst (λ xs. P xs (d, u)) (sym p.0) (subst (P h) (sym same) at.due))
      | inr p ↦ due.answers before p.0 d u p.1
    ];
  }

-- ---- a new book, of which nothing has been asked

pub new_limits : (served : ℕ → Bool) → served 1 ≡ true → InLimits served new_book
new_limits served one = record {
  lines = refl;
  nodes = refl;
  rounds_from = omega arith;
  rounds_to = omega arith;
  rounds_served = one;
  live_count = omega arith;
  rising = record { rise = λ i j l m. absurd (omega (arith, m)); from = λ i l. absurd (omega (arith, l)); upto = λ i l. absurd (omega (arith, l)) };
  given = omega arith;
  between = λ i l. absurd (omega (arith, l));
  loads = λ v. (omega arith, omega arith);
}

pub lawful_new : (kind : ℕ → ℕ → Meaning) (served : ℕ → Bool) → served 1 ≡ true → Lawful kind served []
lawful_new kind served one = record { answers = no_call; timetables = no_issue; limits = whole }
  where
    no_call : (before after : History) (c : Asked) (a : Told) → [] ≡ before ++ ((c, a) ∷ after) → IsLawfulAnswer kind before c a
    no_call [] after c a e = absurd cc
    no_call (x ∷ before) after c a e = absurd cc

    no_issue : (before after since : History) → [] ≡ before ++ after → since_issue before ≡ Some since → (ss : List Seat) × IsTimetable kind (read_book before) ss since
    no_issue [] after since e f = absurd cc
    no_issue (x ∷ before) after since e f = absurd cc

    whole : (before after : History) → [] ≡ before ++ after → InLimits served (read_book before)
    whole [] after e = new_limits served one
    whole (x ∷ before) after e = absurd cc

pub due_new : (served : ℕ → Bool) → Due served []
due_new served = record { answers = no_call }
  where
    no_call : (before after : History) (c : Asked) (a : Told) → [] ≡ before ++ ((c, a) ∷ after) → is_of_draft c ≡ is_draft before → IsDue served (read_book before) c a
    no_call [] after c a e = absurd cc
    no_call (x ∷ before) after c a e = absurd cc
