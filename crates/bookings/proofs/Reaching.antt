-- How far the load of an image comes, record by record.
use Rattle.std.proofs.Common.{◌≡◌, ℕ, ◌+◌, ◌*◌, Bool, true, false, cond, ltb, List, [], ◌∷◌, ◌++◌, length, Some, None, Ok, Err, Option, Result, refl, sym, ap, subst, ◌∙◌, ◌⊎◌, inl, inr}
use Rattle.std.proofs.lemmas.List.{map-append}
use Rattle.std.proofs.lemmas.Bool.{ltb-true}
use Rattle.ports.specs.declared.transfer.Transfer.{Transfer}
use Rattle.ports.specs.Nodes.{is_node}
use Rattle.crossbar.specs.Refusals.{Refusal, refuse, refuse_node}
use Rattle.image.specs.Faults.{Fault}
use Rattle.image.specs.Meaning.{IsNotIn}
use Rattle.image.specs.Readings.{Reading}
use Rattle.image.specs.Records.{NumberedRecord}
use Rattle.timetables.specs.Loads.{sends, receives, LoadsWithin, BetweenNodes}
use Rattle.bookings.specs.declared.booking.Booking.{Booking}
use Rattle.bookings.specs.Loading.{record_booked, records_booked, reading_booked, numbered}
use Rattle.bookings.specs.Model.{Model, transfers, booking_due, appended}
use Rattle.bookings.specs.Steps.{Bookable}
use Rattle.bookings.proofs.Keeps.{more_between, more_within}
use Rattle.bookings.proofs.Records.{and_others, record_accepted, none_accepted, first_accepted, refused_at, booked_append}

-- ---- what stays true of a book

pub record Good (b : Model) : Type 0 where
  pub between : BetweenNodes b.m b.n (transfers b.live)
  pub within : LoadsWithin b.rounds (transfers b.live)

module _ (b : Model) (t : Transfer) where
  -- the four tests of the two nodes, and then those for room and tickets
  abbrev nodes_by : Bool → Bool → Bool → Bool → Result (Unit {0}) Refusal
  nodes_by s r p q = cond s (cond r (cond p (cond q (Ok tt) (refuse_node 9 t.receiver)) (refuse_node 8 t.sender)) (refuse_node 7 t.receiver)) (refuse_node 6 t.sender)

  abbrev then_by : Result (Unit {0}) Refusal → Bool → Bool → Result ℕ Refusal
  then_by nodes few given = elim nodes [ Err e ↦ Err e | Ok _ ↦ cond few (cond given (Ok (b.given + 1)) (refuse 11)) (refuse 10) ]

  by_tests : (s r p q few given : Bool) (k : ℕ) → Ok k ≡ then_by (nodes_by s r p q) few given → (s ≡ true) × (r ≡ true) × (p ≡ true) × (q ≡ true)
  by_tests true true true true few given k e = (refl, refl, refl, refl)
  by_tests true true true false few given k e = absurd cc
  by_tests true true false q few given k e = absurd cc
  by_tests true false p q few given k e = absurd cc
  by_tests false r p q few given k e = absurd cc

  bookable : (k : ℕ) → Ok k ≡ booking_due b t → Bookable b.m b.n b.rounds (transfers b.live) t
  bookable k e =
      let ts = transfers b.live in
      let h = by_tests (is_node b.m b.n t.sender) (is_node b.m b.n t.receiver) (ltb (sends t.sender ts) b.rounds) (ltb (receives t.receiver ts) b.rounds) (ltb (length b.live) 1024) (ltb b.given 65535) k e in
      record {
        sender = ltb-true t.sender (b.m * b.n) h.0;
        receiver = ltb-true t.receiver (b.m * b.n) h.1;
        sends = ltb-true (sends t.sender ts) b.rounds h.2;
        receives = ltb-true (receives t.receiver ts) b.rounds h.3;
      }

  good_appended : (k : ℕ) → Ok k ≡ booking_due b t → Good b → Good (appended b t)
  good_appended k e h =
      let x : Booking = record { ticket = b.given + 1; transfer = t } in
      record {
        between = more_between b.live (b.live ++ x ∷ []) x refl b.m b.n b.rounds (bookable k e) h.between;
        within = more_within b.live (b.live ++ x ∷ []) x refl b.m b.n b.rounds (bookable k e) h.within;
      }

-- of a record more, and of records more
good_record : (b c : Model) (x : NumberedRecord) → Ok c ≡ record_booked b x → Good b → Good c
good_record b c x e h =
    elim (record_accepted b c x e) [
      | inl n ↦ subst Good (sym n.1) h
      | inr y ↦ let k = y.2 in subst Good (sym k.2) (good_appended b y.0 k.0 k.1 h)
    ]

pub good_records : (b d : Model) (xs : List NumberedRecord) → Ok d ≡ records_booked b xs → Good b → Good d
good_records b d [] e h = subst Good (sym (none_accepted b d e)) h
good_records b d (x ∷ xs) e h = let k = first_accepted b d x xs e in good_records k.0 d xs k.2 (good_record b k.0 x k.1 h)

-- ---- where a load stops

module _ (b : Model) (r : Reading) (xs ys : List NumberedRecord) (is : r.records ≡ xs ++ ys) where
  abbrev and_stop : Result Model Fault → Result Model Fault
  and_stop o = elim o [ Err f ↦ Err f | Ok c ↦ elim r.stop [ Some f ↦ Err f | None ↦ Ok c ] ]

  -- once the first of the records are booked
  pub booked_after : (c : Model) → Ok c ≡ records_booked b xs → reading_booked b r ≡ reading_booked c (record { records = ys; stop = r.stop })
  unfolding reading_booked
  booked_after c e = ap and_stop (ap (records_booked b) is ∙ booked_append b xs ys ∙ ap (and_others ys) (sym e))

  -- or refused
  pub refused_before : (f : Fault) → Err f ≡ records_booked b xs → Err f ≡ reading_booked b r
  unfolding reading_booked
  refused_before f e = sym (ap and_stop (ap (records_booked b) is ∙ booked_append b xs ys ∙ ap (and_others ys) (sym e)))

-- a fault is told of the cell of a record, or it is where the reading stops
pub fault_at : (b : Model) (r : Reading) (f : Fault) → Err f ≡ reading_booked b r → (IsNotIn f.cell r.records → ⊥) ⊎ (r.stop ≡ Some f)
unfolding reading_booked
fault_at b r f e = by_all (records_booked b r.records) refl r.stop e
  where
    by_all : (o : Result Model Fault) → o ≡ records_booked b r.records → (stop : Option Fault)
        → Err f ≡ elim o as (λ _. Result Model Fault) [ Err f ↦ Err f | Ok c ↦ elim stop as (λ _. Result Model Fault) [ Some f ↦ Err f | None ↦ Ok c ] ] → (IsNotIn f.cell r.records → ⊥) ⊎ (stop ≡ Some f)
    by_all (Err g) all stop e = inl (λ n. refused_at b r.records f (e ∙ all) n)
    by_all (Ok c) all None e = absurd cc
    by_all (Ok c) all (Some g) e = inr cc

-- ---- the transfers of a book under tickets

pub transfers_numbered : (k : ℕ) (ts : List Transfer) → transfers (numbered k ts) ≡ ts
transfers_numbered k [] = refl
transfers_numbered k (t ∷ ts) = ap (λ us. t ∷ us) (transfers_numbered (k + 1) ts)

pub transfers_extended : (xs : List Booking) (k : ℕ) (ts : List Transfer) → transfers (xs ++ numbered k ts) ≡ transfers xs ++ ts
transfers_extended xs k ts = map-append (λ (x : Booking). x.transfer) xs (numbered k ts) ∙ ap (λ us. transfers xs ++ us) (transfers_numbered k ts)
