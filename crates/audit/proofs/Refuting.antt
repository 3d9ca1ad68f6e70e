-- Histories that the law refutes.
use Rattle.std.proofs.Common.{◌≡◌, ◌≢◌, ℕ, ◌<◌, Bool, true, List, [], ◌∷◌, ◌++◌, length, get_or, Ok, Err, Some, Result, sym, refl, ap, ◌∙◌, inl, inr, subst, arith}
use Rattle.std.proofs.lemmas.List.{append-nil}
use Rattle.crossbar.specs.Refusals.{Refusal, refuse, refuse_node}
use Rattle.ports.specs.declared.transfer.Transfer.{Transfer}
use Rattle.cabinet.specs.Wiring.{Meaning, walk, route, bytes_of}
use Rattle.cabinet.specs.Laws.{Placed, Meeting, Clash, Meet, path}
use Rattle.image.specs.declared.refusal.Layer.TheVariants.{Image, Booking}
use Rattle.image.specs.Faults.{fault}
use Rattle.image.specs.Meaning.{JobImage, Leads, cell_count}
use Rattle.image.specs.Records.{NumberedRecord}
use Rattle.image.specs.Settled.{transfers_read}
use Rattle.timetables.specs.declared.seat.Seat.{Seat}
use Rattle.timetables.specs.Loads.{transfer_at}
use Rattle.timetables.specs.Timetables.{seat_at}
use Rattle.bookings.specs.Model.{transfers, booking_at, booking_due}
use Rattle.book.specs.Calls.{header_at}
use Rattle.audit.specs.History.{Asked, fit, book, cancel, load, need, issue, seat, header, sheet, Told, fit_answer, book_answer, cancel_answer, load_answer, need_answer, issue_answer, seat_answer, header_answer, sheet_answer, not_permitted, History, read_book, since_issue, is_draft}
use Rattle.audit.specs.Law.{Lawful, Due, IsTold, IsTimetable}
use Rattle.audit.specs.Entries.{booked_as, fitted_to, cancelled_from, issued, reopened, seated_at, headed_by, no_bytes, one_transfer, two_transfers, broken_chain}
use Rattle.audit.specs.Refuted.{Refuted}
use Rattle.audit.proofs.Small.{zero_one, zero_to_zero, one_fits, none_fits, small, square, two_crowded, two_fit, none_needed, at_cell, one_means, two_means, broken_means}

one_two : ◌≡◌ {A = ℕ} 1 2 → ⊥
one_two e = omega arith

zero_two : ◌≡◌ {A = ℕ} 0 2 → ⊥
zero_two e = omega arith

zero_three : ◌≡◌ {A = ℕ} 0 3 → ⊥
zero_three e = omega arith

two_one : ◌≡◌ {A = ℕ} 2 1 → ⊥
two_one e = omega arith

three_one : ◌≡◌ {A = ℕ} 3 1 → ⊥
three_one e = omega arith

eight_nine : ◌≡◌ {A = ℕ} 9 8 → ⊥
eight_nine e = omega arith

-- the cells of records that a chain comes to are cells of the image
reached_within : (s : JobImage) (xs : List NumberedRecord) (x : NumberedRecord) (h i g e : ℕ) → Leads s h i (xs ++ (x ∷ [])) g e → x.number < cell_count s
reached_within s [] x h i g e l = omega (arith, l.0.number, l.0.within)
reached_within s (y ∷ xs) x h i g e l = reached_within s xs x i _ g e l.1

-- the number of a refusal
abbrev number_told : Result ℕ Refusal → ℕ
number_told (Ok k) = 0
number_told (Err e) = e.number

-- the headers from a node to itself over two spines differ: a header over one of them, of two other nodes of the line, meets that
-- over the same spine and not that over the other
spines_apart : (kind : ℕ → ℕ → Meaning) → Meeting kind → (kind 1 2).header 0 0 1 ≡ (kind 1 2).header 0 0 0 → ⊥
spines_apart kind meeting e =
    let same : path (kind 1 2) 0 0 1 ≡ path (kind 1 2) 0 0 0 = ap (λ h. route (kind 1 2) 0 (bytes_of h)) e in
    let first = (meeting 1 2 0 0 0 1 1 0 (small 0 0 0 (omega arith) (omega arith) (omega arith)) (small 1 1 0 (omega arith) (omega arith) (omega arith))).1 (inr (inr (refl, inl refl))) in
    let other = (meeting 1 2 0 0 1 1 1 0 (small 0 0 1 (omega arith) (omega arith) (omega arith)) (small 1 1 0 (omega arith) (omega arith) (omega arith))).0 in
    apart (other (subst (λ p. Meet p (path (kind 1 2) 1 1 0)) (sym same) first))
  where
    apart : Clash 2 0 0 1 1 1 0 → ⊥
    apart (inl e) = zero_one e
    apart (inr (inl e)) = zero_one e
    apart (inr (inr p)) = zero_one (sym p.0)

module _ (kind : ℕ → ℕ → Meaning) (served : ℕ → Bool) where
  -- what is told of a booking is what is due
  due : (before after : History) (t : Transfer) (r : Result ℕ Refusal) → Due served (before ++ ((book t, book_answer r) ∷ after)) → true ≡ is_draft before → r ≡ booking_due (read_book before) t
  due before after t r law draft =
      let e : book_answer r ≡ book_answer (booking_due (read_book before) t) = law.answers before after (book t) (book_answer r) refl draft in cc

  -- what was told since an issue is of one timetable
  module _ (h since : History) (law : Lawful kind served h) (e : since_issue h ≡ Some since) where
    abbrev ss : List Seat
    ss = (law.timetables h [] since (sym (append-nil h)) e).0

    made : IsTimetable kind (read_book h) ss since
    made = (law.timetables h [] since (sym (append-nil h)) e).1

    said : (n : ℕ) (x : Asked × Told) → n < length since → get_or since n x ≡ x → IsTold kind (read_book h) ss x.0 x.1
    said n x l is = subst (λ (y : Asked × Told). IsTold kind (read_book h) ss y.0 y.1) is (made.told n x l)

    -- the seat of the ticket at place i
    seat_said : (n k i : ℕ) (p : ℕ × ℕ) → n < length since → get_or since n (seat k, seat_answer (Ok p)) ≡ (seat k, seat_answer (Ok p)) → i < length (read_book h).live →
        (booking_at (read_book h).live i).ticket ≡ k → p ≡ ((seat_at ss i).round, (seat_at ss i).spine)
    seat_said n k i p l is low ticket = let q = (said n (seat k, seat_answer (Ok p)) l is).live i low ticket in cc

    -- its header leads to the receiver
    header_said : (n k i : ℕ) (p : ℕ × ℕ × ℕ) → n < length since → get_or since n (header k, header_answer (Ok p)) ≡ (header k, header_answer (Ok p)) → i < length (read_book h).live →
        i < length (transfers (read_book h).live) → (booking_at (read_book h).live i).ticket ≡ k →
        walk (kind (read_book h).m (read_book h).n) (transfer_at (transfers (read_book h).live) i).sender (bytes_of p) ≡ Ok ((transfer_at (transfers (read_book h).live) i).receiver, [])
    header_said n k i p l is low less ticket =
        let q = (said n (header k, header_answer (Ok p)) l is).live i low ticket in
        let same : p ≡ header_at kind (read_book h) ss i = cc in
        ap (λ x. walk (kind (read_book h).m (read_book h).n) (transfer_at (transfers (read_book h).live) i).sender (bytes_of x)) same ∙ made.delivers i less

    -- two transfers of one round do not clash
    module _ (meeting : Meeting kind) (i j round a b : ℕ) where
      abbrev t : Transfer
      t = transfer_at (transfers (read_book h).live) i

      abbrev u : Transfer
      u = transfer_at (transfers (read_book h).live) j

      clash_said : i < length (transfers (read_book h).live) → j < length (transfers (read_book h).live) → i ≢ j →
          ◌≡◌ {A = ℕ × ℕ} (round, a) ((seat_at ss i).round, (seat_at ss i).spine) → ◌≡◌ {A = ℕ × ℕ} (round, b) ((seat_at ss j).round, (seat_at ss j).spine) →
          Placed (read_book h).m (read_book h).n t.sender t.receiver a → Placed (read_book h).m (read_book h).n u.sender u.receiver b →
          Clash (read_book h).n t.sender t.receiver a u.sender u.receiver b → ⊥
      clash_said l m ne x y p q clash =
          let k : Meaning = kind (read_book h).m (read_book h).n in
          let same : (seat_at ss i).round ≡ (seat_at ss j).round = ap (λ (z : ℕ × ℕ). z.0) (sym x) ∙ ap (λ (z : ℕ × ℕ). z.0) y in
          let meet = (meeting (read_book h).m (read_book h).n _ _ a _ _ b p q).1 clash in
          made.clash_free.apart i j l m ne same
          (subst (λ v. Meet (path k t.sender t.receiver v) (path k u.sender u.receiver (seat_at ss j).spine)) (ap (λ (z : ℕ × ℕ). z.1) x)
          (subst (λ v. Meet (path k t.sender t.receiver a) (path k u.sender u.receiver v)) (ap (λ (z : ℕ × ℕ). z.1) y) meet))

  module _ (meeting : Meeting kind) where
    pub refuted : Refuted kind served
    refuted = record {
      first_refused = λ law.
          let full = (law.answers [] [] (book zero_to_zero) (book_answer (refuse_node 8 0)) refl).right.0 refl refl in
          full.0 (inl refl) (one_fits (kind 1 1) zero_to_zero);
      no_such_node = λ law. let e = ((law.answers [] [] (book (record { sender = 5; receiver = 0 })) (book_answer (refuse_node 8 5)) refl).right.1 (inl refl)).0 in cc;
      receiver_named = λ law. let e : ◌≡◌ {A = Result ℕ Refusal} (refuse_node 9 0) (refuse_node 8 0) = due (booked_as 0 0 1 ∷ []) [] zero_to_zero (refuse_node 9 0) law refl in eight_nine (ap number_told e);
      no_such_refusal = λ law. let e : ◌≡◌ {A = Result ℕ Refusal} (refuse 77) (Ok 1) = due [] [] zero_to_zero (refuse 77) law refl in cc;
      second_taken = λ law.
          let full = (law.answers (booked_as 0 0 1 ∷ []) [] (book zero_to_zero) (book_answer (Ok 2)) refl).right.0 refl refl in
          full.1 (two_crowded kind meeting);
      same_ticket = λ law. let rising = (law.limits (fitted_to 1 1 2 ∷ booked_as 0 0 1 ∷ booked_as 0 0 1 ∷ []) [] refl).rising.rise 0 1 (omega arith) (omega arith) in omega arith;
      ticket_given_again = λ law. one_two (law.answers (booked_as 0 0 1 ∷ cancelled_from 1 0 0 ∷ fitted_to 1 1 1 ∷ []) [] (book zero_to_zero) (book_answer (Ok 1)) refl).right.2;
      ticket_spent = λ law. let upto = (law.limits ((load no_bytes, load_answer (Err (fault 15 0 Image))) ∷ booked_as 0 0 2 ∷ []) [] refl).rising.upto 0 (omega arith) in omega arith;
      lines_above = λ law. let lines = (law.limits (fitted_to 33 1 1 ∷ []) [] refl).lines in cc;
      not_served = λ R none law. none (law.limits (fitted_to 1 1 R ∷ []) [] refl).rounds_served;
      fit_kept = λ law. let between = ((law.limits ((fit 1 2 0, fit_answer (refuse 3)) ∷ booked_as 1 0 1 ∷ []) [] refl).between 0 (omega arith)).0 in omega arith;
      cancelled_twice = λ law. let e = (law.answers (booked_as 0 0 1 ∷ cancelled_from 1 0 0 ∷ []) [] (cancel 1) (cancel_answer (Ok (0, 0))) refl).right.not_live (λ i l. absurd (omega arith)) in cc;
      cancelled_astray = λ law.
          let e = (law.answers (booked_as 0 0 1 ∷ []) [] (cancel 1) (cancel_answer (Ok (0, 1))) refl).right.live 0 (omega arith) refl in
          let f : ◌≡◌ {A = ℕ × ℕ} (0, 1) (0, 0) = cc in zero_one (sym (ap (λ (p : ℕ × ℕ). p.1) f));
      nothing_loaded = λ law.
          let adds = (law.answers [] [] (load no_bytes) (load_answer (Ok (1, 0))) refl).right.2 in
          let long = ((adds.1 (transfers_read no_bytes)).1 refl).1.1.long.least in omega arith;
      load_refused = λ law.
          let full = (law.answers [] [] (load one_transfer) (load_answer (Err (fault 8 1 Booking))) refl).right.0 in
          (full [] (at_cell 1 0) zero_to_zero _ _ one_means.1 refl (λ e. zero_one (sym e), tt) refl refl).0 (refl, inl refl) (one_fits (kind 1 1) zero_to_zero);
      no_such_cell = λ law.
          let at = (law.answers [] [] (load one_transfer) (load_answer (Err (fault 8 7 Booking))) refl).right.1 7 (refl, inl refl) in
          let low = reached_within one_transfer at.before at.here _ _ _ _ at.reaches.leads in omega (arith, low, at.cell);
      two_loaded = λ law.
          let full = (law.answers [] [] (load (two_transfers 1)) (load_answer (Ok (1, 2))) refl).right.0 in
          (full (at_cell 1 2 ∷ []) (at_cell 2 0) zero_to_zero _ _ (two_means 1).1 refl tt refl refl).1 (two_crowded kind meeting);
      second_refused = λ law.
          let full = (law.answers (fitted_to 1 1 2 ∷ []) [] (load (two_transfers 2)) (load_answer (Err (fault 8 2 Booking))) refl).right.0 in
          (full (at_cell 1 2 ∷ []) (at_cell 2 0) zero_to_zero _ _ (two_means 2).1 refl (λ e. zero_two (sym e), (two_one, tt)) refl refl).0 (refl, inl refl) (two_fit kind meeting);
      cell_astray = λ law.
          let full = (law.answers [] [] (load (two_transfers 1)) (load_answer (Err (fault 8 3 Booking))) refl).right.0 in
          let at : ◌≡◌ {A = ℕ} 3 2 = ((full (at_cell 1 2 ∷ []) (at_cell 2 0) zero_to_zero _ _ (two_means 1).1 refl (λ e. zero_three (sym e), (three_one, tt)) refl refl).1 (two_crowded kind meeting)).0 in omega arith;
      broken_loaded = λ law.
          let adds = (law.answers [] [] (load broken_chain) (load_answer (Ok (1, 1))) refl).right.2 in
          broken_means _ ((adds.1 (transfers_read broken_chain)).1 refl);
      load_kept = λ law.
          let least = (law.answers ((load broken_chain, load_answer (Err (fault 18 1 Image))) ∷ []) [] need (need_answer 1) refl).right in
          let one = (least 0).0 (none_needed (kind 1 1) 1) in omega arith;
      needs_two = λ law.
          let least = (law.answers (booked_as 0 0 1 ∷ []) [] need (need_answer 2) refl).right in
          let two = (least 1).0 (one_fits (kind 1 1) zero_to_zero) in omega arith;
      needs_none = λ law.
          let least = (law.answers (booked_as 0 0 1 ∷ []) [] need (need_answer 0) refl).right in
          none_fits (kind 1 1) 1 zero_to_zero ((least 0).1 (omega arith));
      issue_stopped = λ law. (law.answers [] [] issue not_permitted refl).permitted.0 refl refl;
      booked_late = λ law. let e = (law.answers (issued ∷ []) [] (book zero_to_zero) (book_answer (Ok 1)) refl).permitted.1 (λ z. cc) in cc;
      issued_late = λ law. let e = (law.answers (issued ∷ []) [] issue issue_answer refl).permitted.1 (λ z. cc) in cc;
      seat_stopped = λ law. (law.answers (booked_as 0 0 1 ∷ issued ∷ []) [] (seat 1) not_permitted refl).permitted.0 refl refl;
      other_answer = λ h law. let e = (law.answers (booked_as 0 0 1 ∷ issued ∷ []) [] (seat 1) (header_answer (Ok h)) refl).own in cc;
      seat_kept = λ law. let e = (law.answers (booked_as 0 0 1 ∷ issued ∷ seated_at 1 0 0 ∷ reopened ∷ []) [] (seat 1) (seat_answer (Ok (0, 0))) refl).permitted.1 (λ z. cc) in cc;
      two_seats = λ law.
          let since = seated_at 1 0 0 ∷ seated_at 1 0 1 ∷ [] in
          let a = seat_said _ since law refl 0 1 0 (0, 0) (omega arith) refl (omega arith) refl in
          let b = seat_said _ since law refl 1 1 0 (0, 1) (omega arith) refl (omega arith) refl in
          zero_one (ap (λ (p : ℕ × ℕ). p.1) (a ∙ sym b));
      seat_of_before = λ law.
          let since = seated_at 1 1 0 ∷ seated_at 1 0 0 ∷ [] in
          let a = seat_said _ since law refl 0 1 0 (1, 0) (omega arith) refl (omega arith) refl in
          let b = seat_said _ since law refl 1 1 0 (0, 0) (omega arith) refl (omega arith) refl in
          zero_one (ap (λ (p : ℕ × ℕ). p.0) (b ∙ sym a));
      round_above = λ law.
          let since = seated_at 1 1 0 ∷ [] in
          let a = seat_said _ since law refl 0 1 0 (1, 0) (omega arith) refl (omega arith) refl in
          let below = (made _ since law refl).clash_free.rounds 0 (omega arith) in
          let is : ◌≡◌ {A = ℕ} 1 (seat_at (ss _ since law refl) 0).round = ap (λ (p : ℕ × ℕ). p.0) a in omega arith;
      spine_above = λ law.
          let since = seated_at 1 0 1 ∷ [] in
          let a = seat_said _ since law refl 0 1 0 (0, 1) (omega arith) refl (omega arith) refl in
          let below = (made _ since law refl).clash_free.spines 0 (omega arith) in
          let is : ◌≡◌ {A = ℕ} 1 (seat_at (ss _ since law refl) 0).spine = ap (λ (p : ℕ × ℕ). p.1) a in omega arith;
      live_refused = λ law.
          let e = (said _ ((seat 1, seat_answer (refuse 12)) ∷ []) law refl 0 (seat 1, seat_answer (refuse 12)) (omega arith) refl).live 0 (omega arith) refl in cc;
      cancelled_seated = λ law.
          let e = (said _ (seated_at 1 0 0 ∷ []) law refl 0 (seated_at 1 0 0) (omega arith) refl).not_live (λ i l. absurd (omega arith)) in cc;
      header_astray = λ h astray law. astray (header_said _ (headed_by 1 h ∷ []) law refl 0 1 0 h (omega arith) refl (omega arith) (omega arith) refl);
      other_spine = λ law.
          let since = seated_at 1 0 0 ∷ headed_by 1 ((kind 1 2).header 0 0 1) ∷ [] in
          let a = seat_said _ since law refl 0 1 0 (0, 0) (omega arith) refl (omega arith) refl in
          let q = (said _ since law refl 1 (headed_by 1 ((kind 1 2).header 0 0 1)) (omega arith) refl).live 0 (omega arith) refl in
          let same : (kind 1 2).header 0 0 1 ≡ (kind 1 2).header 0 0 (seat_at (ss _ since law refl) 0).spine = cc in
          spines_apart kind meeting (same ∙ ap (λ (p : ℕ × ℕ). (kind 1 2).header 0 0 p.1) (sym a));
      two_headers = λ h i ne law.
          let since = headed_by 1 h ∷ headed_by 1 i ∷ [] in
          let p = (said _ since law refl 0 (headed_by 1 h) (omega arith) refl).live 0 (omega arith) refl in
          let q = (said _ since law refl 1 (headed_by 1 i) (omega arith) refl).live 0 (omega arith) refl in ne cc;
      sheet_above = λ law. let e = said _ ((sheet 1 100, sheet_answer (Ok [])) ∷ []) law refl 0 (sheet 1 100, sheet_answer (Ok [])) (omega arith) refl in cc;
      same_sender = λ law.
          let since = seated_at 1 0 0 ∷ seated_at 2 0 1 ∷ [] in
          let a = seat_said _ since law refl 0 1 0 (0, 0) (omega arith) refl (omega arith) refl in
          let b = seat_said _ since law refl 1 2 1 (0, 1) (omega arith) refl (omega arith) refl in
          clash_said _ since law refl meeting 0 1 0 0 1 (omega arith) (omega arith) zero_one a b
          (small 0 0 0 (omega arith) (omega arith) (omega arith)) (small 0 1 1 (omega arith) (omega arith) (omega arith)) (inl refl);
      same_receiver = λ law.
          let since = seated_at 1 0 0 ∷ seated_at 2 0 1 ∷ [] in
          let a = seat_said _ since law refl 0 1 0 (0, 0) (omega arith) refl (omega arith) refl in
          let b = seat_said _ since law refl 1 2 1 (0, 1) (omega arith) refl (omega arith) refl in
          clash_said _ since law refl meeting 0 1 0 0 1 (omega arith) (omega arith) zero_one a b
          (small 0 0 0 (omega arith) (omega arith) (omega arith)) (small 1 0 1 (omega arith) (omega arith) (omega arith)) (inr (inl refl));
      same_spine = λ law.
          let since = seated_at 1 0 0 ∷ seated_at 2 0 0 ∷ [] in
          let a = seat_said _ since law refl 0 1 0 (0, 0) (omega arith) refl (omega arith) refl in
          let b = seat_said _ since law refl 1 2 1 (0, 0) (omega arith) refl (omega arith) refl in
          clash_said _ since law refl meeting 0 1 0 0 0 (omega arith) (omega arith) zero_one a b
          (small 0 1 0 (omega arith) (omega arith) (omega arith)) (small 1 0 0 (omega arith) (omega arith) (omega arith)) (inr (inr (refl, inl refl)));
      same_receive_line = λ law.
          let since = seated_at 1 0 0 ∷ seated_at 2 0 0 ∷ [] in
          let a = seat_said _ since law refl 0 1 0 (0, 0) (omega arith) refl (omega arith) refl in
          let b = seat_said _ since law refl 1 2 1 (0, 0) (omega arith) refl (omega arith) refl in
          clash_said _ since law refl meeting 0 1 0 0 0 (omega arith) (omega arith) zero_one a b
          (square 0 2 0 (omega arith) (omega arith) (omega arith)) (square 2 3 0 (omega arith) (omega arith) (omega arith)) (inr (inr (refl, inr refl)));
    }
