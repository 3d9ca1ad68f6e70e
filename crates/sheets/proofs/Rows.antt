-- The rows of transfers: the header of each, and how long it is.
use Rattle.std.proofs.Common.{◌≡◌, ℕ, ◌+◌, ◌/◌, ◌%◌, ◌<◌, true, List, [], ◌∷◌, length, get_or, Some, None, Ok, Err, Option, Result, refl, sym, ap, ◌∙◌, arith}
use Rattle.std.proofs.lemmas.Fmt.{decimal_digit}
use Rattle.crossbar.specs.Refusals.{Refusal, refuse}
use Rattle.crossbar.specs.Text.{two_digits}
use Rattle.ports.specs.declared.transfer.Transfer.{Transfer}
use Rattle.ports.specs.Checks.{lines_fit, nodes_fit}
use Rattle.ports.proofs.Places.{at_most_16}
use Rattle.cabinet.specs.Wiring.{Meaning}
use Rattle.timetables.specs.declared.seat.Seat.{Seat}
use Rattle.timetables.specs.Loads.{transfer_at, BetweenNodes}
use Rattle.timetables.specs.Timetables.{seat_at}
use Rattle.bookings.specs.declared.booking.Booking.{Booking}
use Rattle.bookings.specs.declared.refusal.TicketRefusal.{TicketRefusal}
use Rattle.bookings.specs.Refusals.{ticket_refusal}
use Rattle.bookings.specs.Model.{Model, transfers, booking_at, Rising}
use Rattle.bookings.proofs.Facts.{length_transfers, transfer_place, place_here, below_512}
use Rattle.book.specs.Calls.{header_at, header_due, Seated}
use Rattle.sheets.specs.Sheets.{three_digits, row_text, row_at}
use Rattle.sheets.specs.Steps.{PlacesBelow}

-- ---- a row has 20 bytes

pub two_is : (v : ℕ) → v < 100 → two_digits v ≡ (48 + v / 10) ∷ (48 + v % 10) ∷ []
two_is v h = rw (decimal_digit (v / 10) (omega arith), decimal_digit (v % 10) (omega arith)) refl

pub three_is : (v : ℕ) → v < 1000 → three_digits v ≡ (48 + v / 100) ∷ (48 + v % 100 / 10) ∷ (48 + v % 100 % 10) ∷ []
three_is v h = rw (decimal_digit (v / 100) (omega arith), two_is (v % 100) (omega arith)) refl

row_is_long : (t : Transfer) (j : ℕ) (h : ℕ × ℕ × ℕ) → t.sender < 1000 → t.receiver < 1000 → j < 100 → length (row_text t j h) ≡ 20
unfolding row_text
row_is_long t j h s r low = rw (three_is t.sender s, three_is t.receiver r, two_is j low) refl

-- ---- the transfer at a place: its nodes and its spine are low, its ticket is live, and its row is that of the place

module _ (kind : ℕ → ℕ → Meaning) (b : Model) (ss : List Seat) (seated : Seated kind b ss) (lines : lines_fit b.m ≡ true) (nodes : nodes_fit b.n ≡ true) (between : BetweenNodes b.m b.n (transfers b.live)) (i : ℕ) (l : i < length b.live) where
  within : i < length (transfers b.live)
  within = omega (arith, l, length_transfers b.live)

  low_sender : (transfer_at (transfers b.live) i).sender < 512
  low_sender = below_512 b.m b.n (transfer_at (transfers b.live) i).sender lines nodes (between i within).0

  low_receiver : (transfer_at (transfers b.live) i).receiver < 512
  low_receiver = below_512 b.m b.n (transfer_at (transfers b.live) i).receiver lines nodes (between i within).1

  pub row_long : length (row_at kind b ss (Some i)) ≡ 20
  row_long =
      row_is_long (transfer_at (transfers b.live) i) (seat_at ss i).spine (header_at kind b ss i)
      (omega (arith, low_sender)) (omega (arith, low_receiver)) (omega (arith, seated.spines i within, at_most_16 b.n nodes))

  -- the bookings and the seats are read at the place
  module _ (live : List Booking) (us : List Seat) (j k : ℕ) (same : live ≡ b.live) (same_seats : us ≡ ss) (here : j ≡ i) (here_too : k ≡ i) where
    booking_is : booking_at live j ≡ booking_at b.live i
    booking_is = rw (same, here) refl

    pub sender_fits : (booking_at live j).transfer.sender < 1000
    sender_fits = omega (arith, ap (λ (x : Booking). x.transfer.sender) booking_is, ap (λ (t : Transfer). t.sender) (transfer_place b.live i l), low_sender)

    pub receiver_fits : (booking_at live j).transfer.receiver < 1000
    receiver_fits = omega (arith, ap (λ (x : Booking). x.transfer.receiver) booking_is, ap (λ (t : Transfer). t.receiver) (transfer_place b.live i l), low_receiver)

    module _ (rising : Rising b.given b.live) where
      abbrev by_position : Option ℕ → Result (ℕ × ℕ × ℕ) Refusal
      by_position None = refuse 12
      by_position (Some p) = Ok (header_at kind b ss p)

      header_here : header_due kind b ss (booking_at live j).ticket ≡ Ok (header_at kind b ss i)
      header_here =
          ap (λ (x : Booking). header_due kind b ss x.ticket) booking_is
          ∙ ap by_position (place_here b.given (booking_at b.live i).ticket b.live rising i l (λ p m e. omega (arith, rising.rise p i m l, e)) refl)

      pub always_live : (e : TicketRefusal) → Err (ticket_refusal e) ≡ header_due kind b ss (booking_at live j).ticket → ⊥
      always_live e told =
          let z : Err (ticket_refusal e) ≡ Ok (header_at kind b ss i) = told ∙ header_here in
          let q : ◌≡◌ {A = ℕ} 0 1 = cc in omega arith

      pub row_is : (h : ℕ × ℕ × ℕ) (r : List ℕ) → Ok h ≡ header_due kind b ss (booking_at live j).ticket → r ≡ row_text (booking_at live j).transfer (seat_at us k).spine h → r ≡ row_at kind b ss (Some i)
      row_is h r told is =
          let header : h ≡ header_at kind b ss i = (let z : ◌≡◌ {A = Result (ℕ × ℕ × ℕ) Refusal} (Ok h) (Ok (header_at kind b ss i)) = told ∙ header_here in cc) in
          let transfer : (booking_at live j).transfer ≡ transfer_at (transfers b.live) i = ap (λ (x : Booking). x.transfer) booking_is ∙ sym (transfer_place b.live i l) in
          let spine : (seat_at us k).spine ≡ (seat_at ss i).spine = rw (same_seats, here_too) refl in
          is ∙ rw (transfer, spine, header) refl

-- a place that is noted is that of a live transfer
pub place_below : (ps : List (Option ℕ)) (v i n : ℕ) → PlacesBelow ps n → v < length ps → Some i ≡ get_or ps v None → i < n
unfolding PlacesBelow
place_below ps v i n h l e = h v i l (sym e)

pub ruleset digits = (decimal_digit)
