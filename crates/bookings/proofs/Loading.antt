-- The loop that books the transfers of an image, and that which takes them back.
use Rattle.std.proofs.Common.{◌≡◌, ℕ, ◌+◌, ◌<◌, ◌≤◌, [], ◌∷◌, length, take, Some, None, Ok, Err, Option, Result, refl, sym, ap, ◌∙◌, arith}
use Rattle.std.proofs.lemmas.List.{length-take, length_push, take_all, take-take, take-append-le}
use Rattle.ports.specs.declared.transfer.Transfer.{Transfer}
use Rattle.image.specs.declared.record.Record.{Record}
use Rattle.image.specs.Faults.{Fault}
use Rattle.image.specs.Readings.{Reading, Reader, record_step, passed, told_some, reading, stopped, and_record}
use Rattle.image.specs.Records.{NumberedRecord, parts}
use Rattle.image.proofs.Loops.{left_of, IsMarked, reads_on, reads_record, still_marked, less_left}
use Rattle.bookings.specs.Loading.{record_booked, records_booked, reading_booked}
use Rattle.bookings.specs.declared.booking.Booking.{Booking}
use Rattle.bookings.specs.Model.{Model, appended}
use Rattle.bookings.specs.Steps.{Follows}

-- a book comes of itself, and of what it came of
pub follows_none : (b : Model) → Follows b b
follows_none b = record { m = refl; n = refl; rounds = refl; live = take_all (length b.live) b.live (omega arith); given = refl }

pub follows_more : (b c d : Model) → Follows b c → Follows c d → Follows b d
follows_more b c d h k =
    let long : length b.live ≤ length c.live = omega (arith, ap length h.live, length-take (length b.live) c.live) in
    record {
      m = k.m ∙ h.m;
      n = k.n ∙ h.n;
      rounds = k.rounds ∙ h.rounds;
      live = sym (take-take (length b.live) (length c.live) d.live long) ∙ ap (take (length b.live)) k.live ∙ h.live;
      given = omega (arith, h.given, k.given);
    }

-- a booking more
pub follows_appended : (b : Model) (t : Transfer) → Follows b (appended b t)
follows_appended b t =
    let x : Booking = record { ticket = b.given + 1; transfer = t } in
    record {
      m = refl;
      n = refl;
      rounds = refl;
      live = take-append-le (length b.live) b.live (x ∷ []) (omega arith) ∙ take_all (length b.live) b.live (omega arith);
      given = omega (arith, length_push b.live x);
    }

-- what a book and a reading come to, by what is read first
module _ (b : Model) (r : Reading) (x : NumberedRecord) where
  and_then : Result Model Fault → Result Model Fault
  and_then (Ok c) = reading_booked c r
  and_then (Err f) = Err f

  by_first : (o : Result Model Fault) → o ≡ record_booked b x → reading_booked b (and_record x r) ≡ and_then o
  unfolding reading_booked records_booked and_then
  by_first (Ok c) e = rw (← e, reading_booked) refl
  by_first (Err f) e = rw (← e, reading_booked) refl

  pub booked_on : (c : Model) → Ok c ≡ record_booked b x → reading_booked b (and_record x r) ≡ reading_booked c r
  unfolding and_then
  booked_on c e = by_first (Ok c) e

  pub refused_there : (f : Fault) → Err f ≡ record_booked b x → reading_booked b (and_record x r) ≡ Err f
  unfolding and_then
  refused_there f e = by_first (Err f) e

booked_end : (c : Model) → reading_booked c (stopped None) ≡ Ok c
unfolding reading_booked records_booked
booked_end c = refl

pub booked_stop : (c : Model) (f : Fault) → reading_booked c (stopped (Some f)) ≡ Err f
unfolding reading_booked records_booked
booked_stop c f = refl

-- b is booked at the reader k, and of that the book is now c, and the reader at j
record Part (b : Model) (k : Reader) (c : Model) (j : Reader) : Type 0 where
  pub booked : reading_booked c (reading j) ≡ reading_booked b (reading k)
  pub follows : Follows b c
  pub marked : IsMarked j

pub IsPart : Model → Reader → Model → Reader → Type 0
IsPart b k c j = Part b k c j

pub part_begins : (b : Model) (k : Reader) → length k.state.visited ≡ 2048 → length k.state.cells ≤ 2048 → IsPart b k b k
unfolding IsPart
part_begins b k marks few = record { booked = refl; follows = follows_none b; marked = record { marks = marks; few = few } }

module _ (b : Model) (k : Reader) (c : Model) (j : Reader) (h : IsPart b k c j) where
  pub part_follows : Follows b c
  unfolding IsPart
  part_follows = h.follows

  pub part_follows_more : (d : Model) → Follows c d → Follows b d
  unfolding IsPart
  part_follows_more d f = follows_more b c d h.follows f

  pub part_ends : Ok None ≡ record_step j → Ok c ≡ reading_booked b (reading k)
  unfolding IsPart
  part_ends e = sym (booked_end c) ∙ ap (reading_booked c) (sym (reads_on j h.marked (Ok None) e)) ∙ h.booked

  pub part_stops : (f : Fault) → Err f ≡ record_step j → Err f ≡ reading_booked b (reading k)
  unfolding IsPart
  part_stops f e = sym (booked_stop c f) ∙ ap (reading_booked c) (sym (reads_on j h.marked (Err f) e)) ∙ h.booked

  -- a step that comes to a record, as a caller is told it
  module _ (o : Option (ℕ × Record)) (i : ℕ) (x : Record) (answer : Ok (told_some o) ≡ record_step j) (some : o ≡ Some (i, x)) where
    abbrev this_record : NumberedRecord
    this_record = record { number = i; parts = parts x }

    -- c and this record, and what is read after it
    on_record : reading_booked c (and_record this_record (reading (passed j))) ≡ reading_booked b (reading k)
    unfolding IsPart
    on_record = ap (reading_booked c) (sym (reads_record j h.marked o i x answer some)) ∙ h.booked

    pub part_refused : (f : Fault) → Err f ≡ record_booked c (record { number = i; parts = parts x }) → Err f ≡ reading_booked b (reading k)
    part_refused f e = sym (refused_there c (reading (passed j)) this_record f e) ∙ on_record

    module _ (j_new : Reader) (there : j_new ≡ passed j) where
      pub part_more : (d : Model) → Ok d ≡ record_booked c (record { number = i; parts = parts x }) → Follows c d → IsPart b k d j_new
      unfolding IsPart
      part_more d e f =
          rw there
          (record {
            booked = sym (booked_on c (reading (passed j)) this_record d e) ∙ on_record;
            follows = follows_more b c d h.follows f;
            marked = still_marked j h.marked o i x answer some;
          })

      pub part_less : left_of j_new < left_of j
      unfolding IsPart
      part_less = less_left j h.marked o i x answer some j_new there

pub ruleset loading = (part_begins, part_follows, part_follows_more, part_ends, part_stops, part_refused, part_more, part_less)

pub ruleset following = (follows_none, follows_appended)

-- c still has the first so many live transfers of b, and its sizes and rounds
pub record IsLess (b : Model) (count : ℕ) (c : Model) : Type 0 where
  pub m : c.m ≡ b.m
  pub n : c.n ≡ b.n
  pub rounds : c.rounds ≡ b.rounds
  pub live : take count c.live ≡ take count b.live
  pub enough : count ≤ length c.live
