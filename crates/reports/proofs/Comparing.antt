-- Two tables in which tickets rise have the same under each ticket just where they have the same at each place.
use Rattle.std.proofs.Common.{◌≡◌, ℕ, zero, suc, ◌<◌, ◌≤◌, ◌≢◌, ◌↔◌, List, length, Some, None, Option, sym, refl, ap, ◌∙◌, ⊎_elim, arith}
use Rattle.std.proofs.lemmas.Bool.{cases_eq, cases_lt}
use Rattle.ports.specs.declared.transfer.Transfer.{Transfer}
use Rattle.timetables.specs.declared.seat.Seat.{Seat}
use Rattle.timetables.specs.Loads.{transfer_at}
use Rattle.timetables.specs.Timetables.{seat_at}
use Rattle.bookings.specs.declared.booking.Booking.{Booking}
use Rattle.bookings.specs.Model.{Model, transfers, booking_at, Rising, position_of}
use Rattle.bookings.proofs.Facts.{transfer_place, place_found, place_here}
use Rattle.reports.specs.Likeness.{under_ticket, SameUnderTickets, SamePlaces}

abbrev none : Booking
none = record { ticket = 0; transfer = record { sender = 0; receiver = 0 } }

-- the ticket at a place
abbrev ticket : Model → ℕ → ℕ
ticket b i = (booking_at b.live i).ticket

-- the transfer at a place and its round
abbrev standing : Model → List Seat → ℕ → Transfer × ℕ
standing b ss i = ((booking_at b.live i).transfer, (seat_at ss i).round)

-- the same of a position, where there is one
abbrev at_place : Model → List Seat → Option ℕ → Option (Transfer × ℕ)
at_place b ss None = None
at_place b ss (Some i) = Some (transfer_at (transfers b.live) i, (seat_at ss i).round)

module _ (b : Model) (rising : Rising b.given b.live) where
  -- where tickets rise, the place of a ticket is its position
  placed : (k i : ℕ) → i < length b.live → ticket b i ≡ k → position_of k b.live ≡ Some i
  placed k i l e = place_here b.given k b.live rising i l (λ j m z. omega (arith, rising.rise j i m l)) e

  -- what stands under the ticket of a place is what stands at the place
  under : (ss : List Seat) (k i : ℕ) → i < length b.live → ticket b i ≡ k → under_ticket b ss k ≡ Some (standing b ss i)
  under ss k i l e = ap (at_place b ss) (placed k i l e) ∙ ap (λ t. Some (t, (seat_at ss i).round)) (transfer_place b.live i l)

-- what one table has under its tickets, the other has too
module _ (b c : Model) (ss us : List Seat) (rising : Rising b.given b.live) (same : (k : ℕ) → under_ticket b ss k ≡ under_ticket c us k) where
  stands_at : (i : ℕ) (p : Option ℕ) → i < length b.live → position_of (ticket b i) c.live ≡ p → (j : ℕ) × (j < length c.live) × (ticket c j ≡ ticket b i)
  stands_at i (Some j) l e = let f = place_found (ticket b i) j c.live e in (j, f.0, f.1)
  stands_at i None l e = let here = sym (under b rising ss (ticket b i) i l refl) ∙ same (ticket b i) ∙ ap (at_place c us) e in absurd cc

  stands : (i : ℕ) → i < length b.live → (j : ℕ) × (j < length c.live) × (ticket c j ≡ ticket b i)
  stands i l = stands_at i (position_of (ticket b i) c.live) l refl

module _ (b c : Model) (ss us : List Seat) (rising : Rising b.given b.live) (rising_too : Rising c.given c.live) where
  -- ---- from places to tickets

  module _ (each : length b.live ≡ length c.live) (same : SamePlaces b.live ss c.live us) where
    at_one : (k i : ℕ) → i < length b.live → ticket b i ≡ k → under_ticket b ss k ≡ under_ticket c us k
    unfolding SamePlaces
    at_one k i l e =
        let s = same i l in
        let x = booking_at b.live i in
        let y = booking_at c.live i in
        let z = (seat_at ss i).round in
        under b rising ss k i l e
        ∙ ap (λ n. Some (record { sender = n; receiver = x.transfer.receiver }, z)) s.sender
        ∙ ap (λ n. Some (record { sender = y.transfer.sender; receiver = n }, z)) s.receiver
        ∙ ap (λ n. Some (y.transfer, n)) s.round
        ∙ sym (under c rising_too us k i (omega arith) (sym s.ticket ∙ e))

    by_position : (k : ℕ) (o p : Option ℕ) → position_of k b.live ≡ o → position_of k c.live ≡ p → under_ticket b ss k ≡ under_ticket c us k
    unfolding SamePlaces
    by_position k (Some i) p e f = let t = place_found k i b.live e in at_one k i t.0 t.1
    by_position k None (Some i) e f = let t = place_found k i c.live f in at_one k i (omega arith) ((same i (omega arith)).ticket ∙ t.1)
    by_position k None None e f = ap (at_place b ss) e ∙ sym (ap (at_place c us) f)

    same_under_tickets : (k : ℕ) → under_ticket b ss k ≡ under_ticket c us k
    same_under_tickets k = by_position k (position_of k b.live) (position_of k c.live) refl refl

  -- ---- from tickets to places

  -- where tickets agree below a place, the other table has no higher ticket there
  no_higher : ((k : ℕ) → under_ticket b ss k ≡ under_ticket c us k) → (i : ℕ) → i < length b.live → i < length c.live → ((j : ℕ) → j < i → ticket b j ≡ ticket c j) → ticket c i ≤ ticket b i
  no_higher same i l m before =
      let s = stands b c ss us rising same i l in
      ⊎_elim
      (λ (n : s.0 < i). omega (arith, before s.0 n, rising.rise s.0 i n l))
      (λ (n : i ≤ s.0). ⊎_elim
      (λ (e : i ≡ s.0). omega (arith, ap (ticket c) e))
      (λ (d : i ≢ s.0). omega (arith, rising_too.rise i s.0 (omega arith) s.1))
      (cases_eq i s.0))
      (cases_lt s.0 i)

  -- where tickets agree at each place, the other table is no longer
  no_longer : ((k : ℕ) → under_ticket c us k ≡ under_ticket b ss k) → ((i : ℕ) → i < length b.live → i < length c.live → ticket b i ≡ ticket c i) → length c.live ≤ length b.live
  no_longer same agree =
      ⊎_elim
      (λ (l : length b.live < length c.live).
      let s = stands c b us ss rising_too same (length b.live) l in
      omega (arith, agree s.0 s.1 (omega arith), rising_too.rise s.0 (length b.live) s.1 l))
      (λ (l : length c.live ≤ length b.live). l)
      (cases_lt (length b.live) (length c.live))

module _ (b c : Model) (ss us : List Seat) (rising : Rising b.given b.live) (rising_too : Rising c.given c.live) (same : (k : ℕ) → under_ticket b ss k ≡ under_ticket c us k) where
  agree_below : (n i : ℕ) → i < n → i < length b.live → i < length c.live → ticket b i ≡ ticket c i
  agree_below zero i h l m = omega arith
  agree_below (suc n) i h l m =
      let before : (j : ℕ) → j < i → ticket b j ≡ ticket c j = λ j q. agree_below n j (omega arith) (omega arith) (omega arith) in
      omega (arith, no_higher b c ss us rising rising_too same i l m before, no_higher c b us ss rising_too rising (λ k. sym (same k)) i m l (λ j q. sym (before j q)))

  agree : (i : ℕ) → i < length b.live → i < length c.live → ticket b i ≡ ticket c i
  agree i = agree_below (suc i) i (omega arith)

  as_many : length b.live ≡ length c.live
  as_many =
      omega (
        arith,
        no_longer b c ss us rising rising_too (λ k. sym (same k)) agree,
        no_longer c b us ss rising_too rising same (λ i m l. sym (agree i l m)),
      )

  same_places : SamePlaces b.live ss c.live us
  unfolding SamePlaces
  same_places i l =
      let m : i < length c.live = omega (arith, as_many) in
      let e = agree i l m in
      let here = sym (under b rising ss (ticket b i) i l refl) ∙ same (ticket b i) ∙ under c rising_too us (ticket b i) i m (sym e) in
      let pair : standing b ss i ≡ standing c us i = cc in
      record {
        ticket = e;
        sender = ap (λ p. p.0.sender) pair;
        receiver = ap (λ p. p.0.receiver) pair;
        round = ap (λ p. p.1) pair;
      }

-- two tables have the same under each ticket just where they are as long, and have the same at each place
pub by_place : (b c : Model) (ss us : List Seat) → Rising b.given b.live → Rising c.given c.live → SameUnderTickets b ss c us ↔ ((length b.live ≡ length c.live) × SamePlaces b.live ss c.live us)
unfolding SameUnderTickets
by_place b c ss us rising rising_too =
    (λ same. (as_many b c ss us rising rising_too same, same_places b c ss us rising rising_too same), λ h. same_under_tickets b c ss us rising rising_too h.0 h.1)
