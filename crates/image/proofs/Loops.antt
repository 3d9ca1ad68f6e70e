-- What a loop over the records of a chain keeps.
use Rattle.std.proofs.Common.{◌≡◌, ℕ, true, ◌<◌, ◌≤◌, List, [], ◌++◌, length, Some, None, Ok, Err, Option, Result, refl, sym, ap, ◌∙◌, arith}
use Rattle.std.specs.List.{flat_map}
use mathlib.Core.List.{append_assoc, append-nil}
use Rattle.std.proofs.lemmas.List.{length-set}
use Rattle.image.specs.Faults.{Fault}
use Rattle.image.specs.declared.record.Record.{Record}
use Rattle.image.specs.Readings.{Reading, Reader, record_step, passed, told_some, unvisited_count, reading, stopped, and_record}
use Rattle.image.specs.Records.{NumberedRecord, parts}
use Rattle.image.proofs.Readings.{moves, fewer, onward, read_once}

-- how many cells are left to visit
unfoldable pub left_of : Reader → ℕ
left_of k = unvisited_count k.state.visited

-- a reader has a mark for each of 2,048 cells, and no more cells than marks
pub record IsMarked (k : Reader) : Type 0 where
  pub marks : length k.state.visited ≡ 2048
  pub few : length k.state.cells ≤ 2048

-- what such a reader comes to
pub reads_on : (k : Reader) (m : IsMarked k) (o : Result (Option NumberedRecord) Fault) → o ≡ record_step k → reading k ≡ onward k o
reads_on k m o e = read_once k m.marks m.few ∙ ap (onward k) (sym e)

-- a step that comes to a record, as a caller is told it
module _ (k : Reader) (m : IsMarked k) (o : Option (ℕ × Record)) (i : ℕ) (x : Record) (answer : Ok (told_some o) ≡ record_step k) (some : o ≡ Some (i, x)) where
  abbrev this_record : NumberedRecord
  this_record = record { number = i; parts = parts x }

  told : Ok (Some this_record) ≡ record_step k
  told = ap (λ q. Ok (told_some q)) (sym some) ∙ answer

  -- what is read from k on is the record, and what is read after it
  pub reads_record : reading k ≡ and_record this_record (reading (passed k))
  reads_record = reads_on k m (Ok (Some this_record)) told

  pub still_marked : IsMarked (passed k)
  still_marked =
      let move = moves k this_record (sym told) in
      record {
        marks = ap (λ q. length q.state.visited) move ∙ length-set k.state.visited k.state.index true ∙ m.marks;
        few = rw move m.few;
      }

  pub less_left : (k_new : Reader) → k_new ≡ passed k → left_of k_new < left_of k
  unfolding left_of
  less_left k_new there =
      let less = fewer k this_record (sym told) m.marks m.few in
      let same = ap (λ q. unvisited_count q.state.visited) there in
      omega (arith, less, same)

-- a reader at k, of an image of which r is read in all, has made `done` of the records so far, by f of each
record Part {A : Type 0} (f : NumberedRecord → List A) (r : Reading) (done : List A) (k : Reader) : Type 0 where
  pub made : done ++ flat_map f (reading k).records ≡ flat_map f r.records
  pub stop : (reading k).stop ≡ r.stop
  pub marked : IsMarked k

pub IsPart : {A : Type 0} → (NumberedRecord → List A) → Reading → List A → Reader → Type 0
IsPart f r done k = Part f r done k

pub part_begins : {A : Type 0} (f : NumberedRecord → List A) (k : Reader) → length k.state.visited ≡ 2048 → length k.state.cells ≤ 2048 → IsPart f (reading k) [] k
unfolding IsPart
part_begins f k marks few = record { made = refl; stop = refl; marked = record { marks = marks; few = few } }

module _ {A : Type 0} (f : NumberedRecord → List A) (r : Reading) (done : List A) (k : Reader) (h : IsPart f r done k) where
  reads : (o : Result (Option NumberedRecord) Fault) → o ≡ record_step k → reading k ≡ onward k o
  unfolding IsPart
  reads o e = reads_on k h.marked o e

  -- a step that comes to a record, as a caller is told it
  module _ (o : Option (ℕ × Record)) (i : ℕ) (x : Record) (k_new : Reader) (answer : Ok (told_some o) ≡ record_step k) (some : o ≡ Some (i, x)) (there : k_new ≡ passed k) where
    pub part_more : (done_new : List A) → done_new ≡ done ++ f (record { number = i; parts = parts x }) → IsPart f r done_new k_new
    unfolding IsPart
    part_more done_new made =
        let same = reads_record k h.marked o i x answer some in
        rw (there, made)
        (record {
          made = append_assoc done (f (record { number = i; parts = parts x })) (flat_map f (reading (passed k)).records) ∙ ap (λ q. done ++ flat_map f q.records) (sym same) ∙ h.made;
          stop = ap (λ q. q.stop) (sym same) ∙ h.stop;
          marked = still_marked k h.marked o i x answer some;
        })

    pub part_less : left_of k_new < left_of k
    unfolding IsPart
    part_less = less_left k h.marked o i x answer some k_new there

  -- a step that comes to no record: all is made that is to be made
  over : (e : Option Fault) → reading k ≡ stopped e → (done ≡ flat_map f r.records) × (r.stop ≡ e)
  unfolding IsPart
  over e same = (sym (append-nil done) ∙ ap (λ q. done ++ flat_map f q.records) (sym same) ∙ h.made, sym h.stop ∙ ap (λ q. q.stop) same)

  pub part_ends : Ok None ≡ record_step k → r.stop ≡ None
  part_ends e = let o = over None (reads (Ok None) e) in o.1

  pub part_stops : (e : Fault) → Err e ≡ record_step k → r.stop ≡ Some e
  part_stops e s = let o = over (Some e) (reads (Err e) s) in o.1

  pub made_at_end : Ok None ≡ record_step k → done ≡ flat_map f r.records
  made_at_end e = let o = over None (reads (Ok None) e) in o.0

  pub made_at_stop : (e : Fault) → Err e ≡ record_step k → done ≡ flat_map f r.records
  made_at_stop e s = let o = over (Some e) (reads (Err e) s) in o.0
