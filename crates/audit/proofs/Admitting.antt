-- Histories that the law admits, step by step from a new book.
use Rattle.std.proofs.Common.{◌≡◌, ◌≢◌, ℕ, ◌<◌, ◌≤◌, Bool, length, nat_eq, true, List, [], ◌∷◌, ◌++◌, Ok, Result, sym, refl, ap, inl, inr, arith}
use Rattle.std.proofs.lemmas.List.Sums.{count_by-le-length}
use Rattle.crossbar.specs.Refusals.{Refusal, refuse_node}
use Rattle.ports.specs.declared.transfer.Transfer.{Transfer}
use Rattle.ports.specs.Checks.{lines_fit, nodes_fit}
use Rattle.cabinet.specs.Wiring.{Meaning}
use Rattle.cabinet.specs.Laws.{Placed, Arrival, Meeting, Meet, Clash}
use Rattle.image.specs.Images.{opened_due}
use Rattle.image.specs.Readings.{reading, read_in, record_step, passed}
use Rattle.image.specs.Settled.{image_reading}
use Rattle.timetables.specs.declared.seat.Seat.{Seat}
use Rattle.timetables.specs.Loads.{LoadsWithin, BetweenNodes}
use Rattle.timetables.specs.Timetables.{seat_at, wires, Timetabled}
use Rattle.timetables.proofs.Exists.{rounds_suffice, least_rounds}
use Rattle.bookings.specs.declared.booking.Booking.{Booking}
use Rattle.bookings.specs.Model.{Model, Rising, new_book, transfers, booking_at, fit_due, fitted}
use Rattle.bookings.specs.Loading.{Adds, load_due, image_booked, reading_booked, records_booked}
use Rattle.book.specs.Calls.{Seated, Delivered, FullExactly, LoadFullExactly}
use Rattle.audit.specs.History.{Asked, fit, seat, Told, fit_answer, History}
use Rattle.audit.specs.Entries.{one_transfer}
use Rattle.audit.specs.Law.{InLimits}
use Rattle.audit.specs.States.{State, in_draft, book_of, KindAndMeters, AgreesWith}
use Rattle.audit.specs.Inner.{Step, fits, books, cancels, loads, needs, issues, seats, headers, reopens, not_of_draft}
use Rattle.audit.specs.Admitted.{Keeps, Admitted}
use Rattle.audit.proofs.Small.{zero_one, zero_to_zero, only, both, first_seat, one_seated, one_fits, two_crowded, one_means}
use Rattle.audit.proofs.Stepping.{lawful_new, due_new, agrees_push, lawful_push, due_push}

-- ---- the books after the steps

abbrev with_one : Model
with_one = record { m = 1; n = 1; rounds = 1; given = 1; live = record { ticket = 1; transfer = zero_to_zero } ∷ [] }

abbrev with_none : Model
with_none = record { m = 1; n = 1; rounds = 1; given = 1; live = [] }

abbrev to : Booking
to = record { ticket = 1; transfer = record { sender = 0; receiver = 1 } }

abbrev fro : Booking
fro = record { ticket = 2; transfer = record { sender = 1; receiver = 0 } }

abbrev between_lines : ℕ → List Booking → Model
between_lines given xs = record { m = 2; n = 1; rounds = 1; given = given; live = xs }

one_rising : (t : Transfer) → Rising 1 (record { ticket = 1; transfer = t } ∷ [])
one_rising t = record {
  rise = λ i j l m. absurd (omega arith);
  from = only _ (omega arith);
  upto = only _ (omega arith);
}

two_rising : Rising 2 (to ∷ fro ∷ [])
two_rising = record {
  rise = λ i j l m. both (λ i. (j : ℕ) → j < 2 → i < j → (booking_at (to ∷ fro ∷ []) i).ticket < (booking_at (to ∷ fro ∷ []) j).ticket)
      (both _ (λ l. absurd (omega (arith, l))) (λ l. omega arith))
      (both _ (λ l. absurd (omega (arith, l))) (λ l. absurd (omega (arith, l)))) i (omega (arith, l, m)) j m l;
  from = both _ (omega arith) (omega arith);
  upto = both _ (omega arith) (omega arith);
}

-- ---- the histories

module _ (kind : ℕ → ℕ → Meaning) (served : ℕ → Bool) where
  -- a booking that has room is rightly accepted
  has_room : (b : Model) (t : Transfer) (k : ℕ) → Timetabled (kind b.m b.n) b.n b.rounds (transfers b.live ++ (t ∷ [])) → FullExactly kind b t (Ok k)
  has_room b t k room sender receiver = (λ z. absurd z, λ none. none room)

  -- the small image reaches no booking but its one, which has room
  load_has_room : (k : ℕ × ℕ) → LoadFullExactly kind new_book one_transfer (Ok k)
  load_has_room k [] x t g e reaches held past sender receiver = (λ z. absurd z, λ none. none (one_fits (kind 1 1) t))
  load_has_room k (y ∷ []) x t g e reaches held past sender receiver = absurd (omega (arith, reaches.leads.1.0.record_cell))
  load_has_room k (y ∷ z ∷ xs) x t g e reaches held past sender receiver = absurd (omega (arith, reaches.leads.1.0.record_cell))

  -- those of a new book of some kind, with both meters at 0
  abbrev first : KindAndMeters (Unit {0})
  first = record { kind = tt; round_meter = 0; spine_meter = 0 }

  -- a history is lawful, and leaves this state
  abbrev Admits : History → State → Type 0
  Admits h s = Keeps kind served h × ((g : KindAndMeters (Unit {0})) × AgreesWith kind first h s g)

  then_step : (h : History) (s t : State) (c : Asked) (a : Told) → Admits h s → Step kind served s c a t → InLimits served (book_of t) → Admits (h ++ ((c, a) ∷ [])) t
  then_step h s t c a ((law, due), (g, left)) step limits = (
    (lawful_push kind served first h s t g c a left step limits law, due_push kind served first h s t g c a left step due),
    (_, agrees_push kind served first h s t g c a left step _ refl),
  )

  module _ (arrival : Arrival kind) (meeting : Meeting kind) (one : served 1 ≡ true) where
    new : Admits [] (in_draft new_book)
    new = ((lawful_new kind served one, due_new served), (first, record { book = refl; since = refl; kind_and_meters = refl }))

    -- the limits of a book of one round whose transfers have room
    roomy : (b : Model) → lines_fit b.m ≡ true → nodes_fit b.n ≡ true → b.rounds ≡ 1 → length b.live ≤ 1024 → Rising b.given b.live → b.given ≤ 65535 → BetweenNodes b.m b.n (transfers b.live) → LoadsWithin 1 (transfers b.live) → InLimits served b
    roomy b lines nodes e few rising given between within = record {
      lines = lines;
      nodes = nodes;
      rounds_from = omega (arith, e);
      rounds_to = omega (arith, e);
      rounds_served = rw e one;
      live_count = few;
      rising = rising;
      given = given;
      between = between;
      loads = rw e within;
    }

    -- one without a transfer
    empty_limits : (m n given : ℕ) → lines_fit m ≡ true → nodes_fit n ≡ true → given ≤ 65535 → InLimits served (record { m = m; n = n; rounds = 1; given = given; live = [] })
    empty_limits m n given lines nodes l = roomy _ lines nodes refl (omega arith)
        (record { rise = λ i j l m. absurd (omega (arith, m)); from = λ i l. absurd (omega (arith, l)); upto = λ i l. absurd (omega (arith, l)) })
        l (λ i l. absurd (omega (arith, l))) (λ v. (omega arith, omega arith))

    one_within : (t : Transfer) → LoadsWithin 1 (t ∷ [])
    one_within t v = (count_by-le-length (λ u. nat_eq u.sender v) (t ∷ []), count_by-le-length (λ u. nat_eq u.receiver v) (t ∷ []))

    with_one_limits : InLimits served with_one
    with_one_limits = roomy with_one refl refl refl (omega arith) (one_rising zero_to_zero) (omega arith) (only _ (omega arith, omega arith)) (one_within zero_to_zero)

    to_limits : InLimits served (between_lines 1 (to ∷ []))
    to_limits = roomy _ refl refl refl (omega arith) (one_rising to.transfer) (omega arith) (only _ (omega arith, omega arith)) (one_within to.transfer)

    -- one transfer over the one spine
    one_delivered : Delivered kind with_one first_seat
    one_delivered = only _ (arrival 1 1 0 0 0 (record { lines = refl; nodes = refl; sender = omega arith; receiver = omega arith; spine = omega arith })).0

    -- two transfers over the one spine, to and fro between two lines
    abbrev ts : List Transfer
    ts = to.transfer ∷ fro.transfer ∷ []

    abbrev ss : List Seat
    ss = record { round = 0; spine = 0 } ∷ record { round = 0; spine = 0 } ∷ []

    lined : (s r : ℕ) → s < 2 → r < 2 → Placed 2 1 s r 0
    lined s r a b = record { lines = refl; nodes = refl; sender = omega arith; receiver = omega arith; spine = omega arith }

    not_clashing : Clash 1 0 1 0 1 0 0 → ⊥
    not_clashing h = elim h [ inl e ↦ zero_one e | inr k ↦ elim k [ inl e ↦ zero_one (sym e) | inr p ↦ elim p.1 [ inl e ↦ zero_one e | inr e ↦ zero_one (sym e) ] ] ]

    not_meeting : Meet (wires (kind 2 1) ts ss 0) (wires (kind 2 1) ts ss 1) → ⊥
    not_meeting meet = not_clashing ((meeting 2 1 0 1 0 1 0 0 (lined 0 1 (omega arith) (omega arith)) (lined 1 0 (omega arith) (omega arith))).0 meet)

    two_seated : Seated kind (between_lines 2 (to ∷ fro ∷ [])) ss
    two_seated = record {
      each = refl;
      rounds = both _ (omega arith) (omega arith);
      spines = both _ (omega arith) (omega arith);
      apart = λ i j l m. both (λ i. (j : ℕ) → j < 2 → i ≢ j → (seat_at ss i).round ≡ (seat_at ss j).round → Meet (wires (kind 2 1) ts ss i) (wires (kind 2 1) ts ss j) → ⊥)
          (both _ (λ ne same meet. ne refl) (λ ne same meet. not_meeting meet))
          (both _ (λ ne same meet. not_meeting (meet.0, meet.2, meet.1)) (λ ne same meet. ne refl)) i l j m;
    }

    two_delivered : Delivered kind (between_lines 2 (to ∷ fro ∷ [])) ss
    two_delivered = both _
        (arrival 2 1 0 1 0 (lined 0 1 (omega arith) (omega arith))).0
        (arrival 2 1 1 0 0 (lined 1 0 (omega arith) (omega arith))).0

    two_between : BetweenNodes 2 1 ts
    two_between = both _ (omega arith, omega arith) (omega arith, omega arith)

    fro_limits : InLimits served (between_lines 2 (to ∷ fro ∷ []))
    fro_limits = roomy _ refl refl refl (omega arith) two_rising (omega arith) two_between ((rounds_suffice kind meeting 2 1 1 ts refl refl two_between).0 (ss, two_seated))

    abbrev fitting : Bool → Result (Unit {0}) Refusal
    fitting b = fit_due new_book b 2 1 1

    fit_accepted : Step kind served (in_draft new_book) (fit 2 1 1) (fit_answer (Ok tt)) (in_draft (between_lines 0 []))
    fit_accepted =
        let is : true ≡ served 1 = sym one in
        fits new_book (between_lines 0 []) 2 1 1 (Ok tt) (ap fitting is) (ap (λ b. fitted new_book b 2 1 1) is)

    -- one transfer read of an image
    load_accepted : Ok (1, 1) ≡ load_due new_book one_transfer
    unfolding load_due image_booked reading_booked records_booked image_reading opened_due reading read_in record_step passed
    load_accepted = refl

    load_adds : Adds new_book one_transfer (Ok (1, 1)) with_one
    unfolding Adds
    load_adds = (zero_to_zero ∷ [], (_, one_means, refl), refl, refl)

    pub admitted : Admitted kind served
    admitted = record {
      seated_then_cancelled =
          let booking = books new_book with_one zero_to_zero (Ok 1) refl refl (has_room new_book zero_to_zero 1 (one_fits (kind 1 1) zero_to_zero)) in
          let a = then_step _ _ _ _ _ new booking with_one_limits in
          let b = then_step _ _ _ _ _ a (issues with_one with_one first_seat refl (one_seated (kind 1 1) zero_to_zero) one_delivered) with_one_limits in
          let c = then_step _ _ _ _ _ b (seats with_one first_seat 1 (Ok (0, 0)) (one_rising zero_to_zero) refl) with_one_limits in
          let d = then_step _ _ _ _ _ c (headers with_one first_seat 1 (Ok ((kind 1 1).header 0 0 0)) (one_rising zero_to_zero) refl) with_one_limits in
          let e = then_step _ _ _ _ _ d (reopens with_one with_one first_seat refl) with_one_limits in
          let f = then_step _ _ _ _ _ e (cancels with_one with_none 1 (Ok (0, 0)) (one_rising zero_to_zero) refl refl) (empty_limits 1 1 1 refl refl (omega arith)) in f.0;
      to_and_fro =
          let a = then_step _ _ _ _ _ new fit_accepted (empty_limits 2 1 0 refl refl (omega arith)) in
          let first = books (between_lines 0 []) (between_lines 1 (to ∷ [])) to.transfer (Ok 1) refl refl (has_room (between_lines 0 []) to.transfer 1 (one_fits (kind 2 1) to.transfer)) in
          let b = then_step _ _ _ _ _ a first to_limits in
          let second = books (between_lines 1 (to ∷ [])) (between_lines 2 (to ∷ fro ∷ [])) fro.transfer (Ok 2) refl refl (has_room (between_lines 1 (to ∷ [])) fro.transfer 2 (ss, two_seated)) in
          let c = then_step _ _ _ _ _ b second fro_limits in
          let d = then_step _ _ _ _ _ c (issues (between_lines 2 (to ∷ fro ∷ [])) (between_lines 2 (to ∷ fro ∷ [])) ss refl two_seated two_delivered) fro_limits in
          let e = then_step _ _ _ _ _ d (seats (between_lines 2 (to ∷ fro ∷ [])) ss 1 (Ok (0, 0)) two_rising refl) fro_limits in
          let f = then_step _ _ _ _ _ e (seats (between_lines 2 (to ∷ fro ∷ [])) ss 2 (Ok (0, 0)) two_rising refl) fro_limits in f.0;
      loaded_full =
          let between : BetweenNodes 1 1 (zero_to_zero ∷ []) = only _ (omega arith, omega arith) in
          let loading = loads new_book with_one one_transfer (Ok (1, 1)) load_accepted load_adds (load_has_room (1, 1)) in
          let a = then_step _ _ _ _ _ new loading with_one_limits in
          let refusing = books with_one with_one zero_to_zero (refuse_node 8 0) refl refl (λ sender receiver. (λ w. two_crowded kind meeting, λ none. inl refl)) in
          let b = then_step _ _ _ _ _ a refusing with_one_limits in
          let c = then_step _ _ _ _ _ b (needs with_one 1 refl (λ R. least_rounds kind meeting 1 1 R (zero_to_zero ∷ []) refl refl between)) with_one_limits in
          let d = then_step _ _ _ _ _ c (not_of_draft with_one (seat 1) refl) with_one_limits in d.0;
      issued_twice =
          let booking = books new_book with_one zero_to_zero (Ok 1) refl refl (has_room new_book zero_to_zero 1 (one_fits (kind 1 1) zero_to_zero)) in
          let a = then_step _ _ _ _ _ new booking with_one_limits in
          let b = then_step _ _ _ _ _ a (issues with_one with_one first_seat refl (one_seated (kind 1 1) zero_to_zero) one_delivered) with_one_limits in
          let c = then_step _ _ _ _ _ b (reopens with_one with_one first_seat refl) with_one_limits in
          let d = then_step _ _ _ _ _ c (issues with_one with_one first_seat refl (one_seated (kind 1 1) zero_to_zero) one_delivered) with_one_limits in d.0;
      counted_twice = refl;
      meter_stopped = refl;
    }
