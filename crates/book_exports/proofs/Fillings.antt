-- What the ways of a filling say of the bytes, and of what C is told.
use Rattle.std.proofs.Common.{◌≡◌, ℕ, ◌/◌, ◌%◌, ◌≤◌, ◌≢◌, eqb, List, length, get_or, Some, None, Ok, Err, Option, Result, sym, ap, ◌∙◌, subst, refl, arith}
use Rattle.std.proofs.lemmas.Bool.{cond-true, eq-eqb}
use Rattle.crossbar.specs.Refusals.{Refusal}
use Rattle.ports.specs.declared.transfer.Transfer.{Transfer}
use Rattle.timetables.specs.declared.seat.Seat.{Seat}
use Rattle.bookings.specs.declared.refusal.FitRefusal.TheVariants.{LineCount, NodeCount, RoundCount, RoundsNotServed, TransferLive}
use Rattle.bookings.specs.declared.refusal.BookRefusal.TheVariants.{Sender, Receiver, SenderFull, ReceiverFull, BookFull, TicketsSpent}
use Rattle.failure.specs.declared.Failure.{Failure}
use Rattle.failure.specs.declared.Failure.TheVariants.{Refused, OutOfMemory}
use Rattle.book_exports.specs.declared.refusal.TurnRefusal.{TurnRefusal}
use Rattle.book_exports.specs.declared.refusal.TurnRefusal.TheVariants.{Fit, Booking}
use Rattle.book_exports.specs.declared.refusal.FillRefusal.{FillRefusal}
use Rattle.book_exports.specs.declared.refusal.FillRefusal.TheVariants.{BrokenTransfer, Turn}
use Rattle.book_exports.specs.Seats.{transfers_in, SeatsPut, NodesKept}
use Rattle.book_exports.specs.Filling.{turn_refusal, number_of, answer_due, Filled, Fills, fill_code, Told}
use Rattle.book_exports.proofs.SeatBytes.{length_transfers, seats_stand}

-- no refusal has the number 0
numbered : (e : TurnRefusal) → 1 ≤ (turn_refusal e).number
numbered (Fit LineCount) = omega arith
numbered (Fit NodeCount) = omega arith
numbered (Fit RoundCount) = omega arith
numbered (Fit RoundsNotServed) = omega arith
numbered (Fit TransferLive) = omega arith
numbered (Booking (Sender v)) = omega arith
numbered (Booking (Receiver v)) = omega arith
numbered (Booking (SenderFull v)) = omega arith
numbered (Booking (ReceiverFull v)) = omega arith
numbered (Booking BookFull) = omega arith
numbered (Booking TicketsSpent) = omega arith

module _ (due : List Transfer → Option Refusal) (Seated : List Transfer → List Seat → Type 0) (times : ℕ) (bs : List ℕ) where
  -- seats that were put into the bytes
  pub filled : (ds : List ℕ) (ss : List Seat) → length bs % 6 ≡ 0 → length ds ≡ length bs → None ≡ due (transfers_in bs) → 1 ≤ times → length ss ≡ length (transfers_in bs) → Seated (transfers_in bs) ss → SeatsPut (length ss) ss ds → NodesKept bs ds → Filled due Seated times bs ds
  filled ds ss whole size none some each free put nodes =
      record {
        whole = whole;
        accepted = sym none;
        seated = λ _. subst (Seated (transfers_in bs)) (sym (seats_stand ds ss (each ∙ length_transfers bs ∙ ap (λ (n : ℕ). n / 6) (sym size)) put)) free;
        nodes = nodes;
        idle = λ z. absurd (omega arith);
      }

  -- no turn, and no byte written
  pub idle : length bs % 6 ≡ 0 → None ≡ due (transfers_in bs) → times ≡ 0 → Filled due Seated times bs bs
  idle whole none z =
      record {
        whole = whole;
        accepted = sym none;
        seated = λ l. absurd (omega arith);
        nodes = λ k _. refl;
        idle = λ _. refl;
      }

  answer_is : (o : Option Refusal) → length bs % 6 ≡ 0 → due (transfers_in bs) ≡ o → number_of o ≡ answer_due due bs
  answer_is o whole e =
      ap number_of (sym e) ∙ sym (cond-true (eqb (length bs % 6) 0) (number_of (due (transfers_in bs))) 255 (eq-eqb (length bs % 6) 0 whole))

  -- an answer that is not 0 and with which no byte changes
  stays : (r : ℕ) → (r ≢ 255 → r ≡ answer_due due bs) → 1 ≤ r → (ds : List ℕ) → ds ≡ bs → Told due Seated times bs ds r
  stays r is some ds same =
      record {
        answer = is;
        unchanged = λ _. same;
        idle = λ _. same;
        seated = λ z. absurd (omega arith);
        nodes = λ k _. ap (λ (xs : List ℕ). get_or xs k 0) same;
      }

  -- what the code tells is what the answer says
  pub told : {A : Type 0} (r : Result A (Failure FillRefusal)) (ds : List ℕ) → Fills r due Seated times bs ds → Told due Seated times bs ds (fill_code r)
  told (Ok _) ds w =
      record {
        answer = λ _. answer_is None w.whole w.accepted;
        unchanged = λ z. absurd (z refl);
        idle = w.idle;
        seated = λ _ l. w.seated l;
        nodes = w.nodes;
      }
  told (Err (Refused BrokenTransfer)) ds w = stays 255 (λ z. absurd (z refl)) (omega arith) ds w.1
  told (Err (Refused (Turn e))) ds w = stays (turn_refusal e).number (λ _. answer_is (Some (turn_refusal e)) w.whole w.refused) (numbered e) ds w.same
  told (Err OutOfMemory) ds w = stays 255 (λ z. absurd (z refl)) (omega arith) ds w.1
