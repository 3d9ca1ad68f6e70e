-- Where a booking, and a load, is refused for want of rounds: at a booking between two nodes, of a load at one that it reaches.
use Rattle.std.proofs.Common.{◌≡◌, ◌≢◌, ℕ, zero, suc, ◌/◌, ◌<◌, ◌≤◌, ◌⊎◌, true, false, List, [], ◌∷◌, ◌++◌, length, drop, replicate, Some, None, Ok, Err, Option, Result, refl, sym, ap, subst, arith}
use Rattle.std.proofs.Math.ListN.{length-replicate}
use Rattle.std.proofs.lemmas.List.{length-append}
use Rattle.std.specs.Simd.{first_chunks}
use Rattle.crossbar.specs.Refusals.{Refusal}
use Rattle.ports.specs.declared.transfer.Transfer.{Transfer}
use Rattle.ports.specs.Nodes.{is_node}
use Rattle.image.specs.Cells.{word, next_index}
use Rattle.image.specs.Faults.{Fault}
use Rattle.image.specs.Images.{opened_due}
use Rattle.image.specs.Meaning.{JobImage, cell, cell_count, IsImageLength, IsHead, Leads, IsNotIn, AreApart, Reaches}
use Rattle.image.specs.Readings.{Reading, reading}
use Rattle.image.specs.Records.{NumberedRecord, transfer_held}
use Rattle.image.specs.Settled.{image_reading}
use Rattle.image.proofs.Settled.{read_apart, stop_number}
use Rattle.image.proofs.Sounds.{length_decides, head_decides}
use Rattle.image.proofs.Walks.{Spot, reader_at, read_walk, walk_leads}
use Rattle.bookings.specs.Faults.{booking_fault}
use Rattle.bookings.specs.Loading.{records_booked, reading_booked, load_due}
use Rattle.bookings.specs.Model.{Model, booking_due, appended}
use Rattle.bookings.proofs.Facts.{booked_or_unfit}
use Rattle.book.specs.Calls.{WantsRounds}
use Rattle.audit.specs.Law.{ReachesBooking}

-- ---- a booking

-- 8 or 9
abbrev IsWant : ℕ → Type 0
IsWant k = (k ≡ 8) ⊎ (k ≡ 9)

-- it is refused by 8 or 9 only where both of its nodes are nodes
pub booking_stops : (b : Model) (t : Transfer) (r : Result ℕ Refusal) → r ≡ booking_due b t → WantsRounds r → (is_node b.m b.n t.sender ≡ true) × (is_node b.m b.n t.receiver ≡ true)
booking_stops b t r e w = let v : WantsRounds (booking_due b t) = subst (λ (a : Result ℕ Refusal). WantsRounds a) e w in grind (arith, v)

-- ---- bookings one after the other

-- a record whose booking is refused by a fault, between two nodes
record Refused (m n : ℕ) (f : Fault) : Type 0 where
  pub here : NumberedRecord
  pub transfer : Transfer
  pub held : transfer_held here.parts ≡ Some transfer
  pub cell : f.cell ≡ here.number
  pub sender : is_node m n transfer.sender ≡ true
  pub receiver : is_node m n transfer.receiver ≡ true

-- some records hold it, with those before it and those after it
abbrev Among : ℕ → ℕ → Fault → List NumberedRecord → Type 0
Among m n f xs = (k : Refused m n f) × (before : List NumberedRecord) × (after : List NumberedRecord) × (xs ≡ before ++ (k.here ∷ after))

module _ (f : Fault) (want : IsWant f.refusal.number) where
  -- of records that are refused: the first is it where its own booking is refused, else one of the others
  module _ (b : Model) (x : NumberedRecord) (xs : List NumberedRecord) (e : Err f ≡ records_booked b (x ∷ xs)) (on : (c : Model) → Err f ≡ records_booked c xs → Among c.m c.n f xs) where
    -- the others are booked after the first, and one of them is it
    later : (c : Model) → Err f ≡ records_booked c xs → Among c.m c.n f (x ∷ xs)
    later c e = let (k, before, after, is) = on c e in (k, x ∷ before, after, ap (λ zs. x ∷ zs) is)

    -- by the booking of the first
    by_due : (t : Transfer) → transfer_held x.parts ≡ Some t → (due : Result ℕ Refusal) → due ≡ booking_due b t → Among b.m b.n f (x ∷ xs)
    unfolding records_booked
    by_due t held (Ok k) is = later (appended b t) (grind (arith, e, held, is))
    by_due t held (Err r) is =
        let same : f ≡ booking_fault x.number r = grind (arith, e, held, is) in
        let nodes = booking_stops b t (Err r) is (subst (λ (g : Fault). IsWant g.refusal.number) same want) in
        (record { here = x; transfer = t; held = held; cell = rw same refl; sender = nodes.0; receiver = nodes.1 }, [], xs, refl)

    -- by whether the first has a transfer
    by_held : (held : Option Transfer) → transfer_held x.parts ≡ held → Among b.m b.n f (x ∷ xs)
    unfolding records_booked
    by_held None is = later b (grind (arith, e, is))
    by_held (Some t) is = by_due t is (booking_due b t) refl

  -- so one of them is it
  among : (xs : List NumberedRecord) (b : Model) → Err f ≡ records_booked b xs → Among b.m b.n f xs
  unfolding records_booked
  among [] b e = absurd cc
  among (x ∷ xs) b e = by_held b x xs e (among xs) (transfer_held x.parts) refl

-- ---- records up to one of them

-- they follow one another as they do among all, and the cell of the last is not the head
leads_first : (s : JobImage) (xs : List NumberedRecord) (x : NumberedRecord) (ys : List NumberedRecord) (h i g e : ℕ) → Leads s h i (xs ++ (x ∷ ys)) g e
    → (j : ℕ) × (k : ℕ) × Leads s h i (xs ++ (x ∷ [])) j k × (0 < x.number)
leads_first s [] x ys h i g e l = (_, _, (l.0, (refl, refl)), subst (λ (n : ℕ). 0 < n) (sym l.0.number) l.0.record_cell)
leads_first s (z ∷ xs) x ys h i g e l = let k = leads_first s xs x ys i (next_index (cell s i)) g e l.1 in (k.0, k.1, (l.0, k.2), k.3)

-- a cell that none of all has, none of them has
not_in_first : (c : ℕ) (xs : List NumberedRecord) (x : NumberedRecord) (ys : List NumberedRecord) → IsNotIn c (xs ++ (x ∷ ys)) → IsNotIn c (xs ++ (x ∷ [])) × (c ≢ x.number)
not_in_first c [] x ys n = ((n.0, tt), n.0)
not_in_first c (z ∷ xs) x ys n = let k = not_in_first c xs x ys n.1 in ((n.0, k.0), k.1)

-- where all are apart they are, and none before the last has its cell
apart_first : (xs : List NumberedRecord) (x : NumberedRecord) (ys : List NumberedRecord) → AreApart (xs ++ (x ∷ ys)) → AreApart (xs ++ (x ∷ [])) × IsNotIn x.number xs
apart_first [] x ys a = ((tt, tt), tt)
apart_first (z ∷ xs) x ys a = let k = apart_first xs x ys a.1 in let n = not_in_first z.number xs x ys a.0 in ((n.0, k.0), (λ e. n.1 (sym e), k.1))

-- ---- an image

-- so many chunks are so many
length_chunks : (w k : ℕ) (bs : List ℕ) → length (first_chunks w k bs) ≡ k
length_chunks w zero bs = refl
length_chunks w (suc k) bs = ap (λ (n : ℕ). suc n) (length_chunks w k (drop w bs))

module _ (s : JobImage) where
  -- at the head, where no cell is visited
  abbrev at_head : Spot
  at_head = record { visited = replicate 2048 false; holder = 0; index = word (cell s 0) 8; marks = length-replicate 2048 false }

  -- where something is read, length and head are right, and it is read from the head on
  some_read : ((image_reading s).records ≡ [] → ⊥) → IsImageLength (length s.bytes) × IsHead (cell s 0) × (image_reading s ≡ reading (reader_at s at_head))
  unfolding image_reading opened_due
  some_read n = grind (arith, length_decides (length s.bytes), head_decides (cell s 0), n)

  -- and the chain reaches what is read
  read_reached : ((image_reading s).records ≡ [] → ⊥) → (g : ℕ) × (e : ℕ) × Reaches s (image_reading s).records g e
  read_reached n =
      let right = some_read n in
      let long = right.0 in
      let few : cell_count s ≤ 2048 = omega (arith, length_chunks 16 (length s.bytes / 16) s.bytes, long.most) in
      let k = read_walk s few 2049 at_head (omega arith) in
      let leads = subst (λ (r : Reading). Leads s 0 (word (cell s 0) 8) r.records k.0.holder k.0.index) (sym right.2) (walk_leads s k.1) in
      (_, _, record { long = long; head = right.1; leads = leads; apart = read_apart s })

  -- a refusal of a load by 8 or 9 is one among the records that are read
  in_records : (b : Model) (f : Fault) → IsWant f.refusal.number → Err f ≡ load_due b s → Err f ≡ records_booked b (image_reading s).records
  unfolding load_due reading_booked
  in_records b f want e = grind (arith, e, want, booked_or_unfit b s, stop_number s f)

-- a load that is refused by 8 or 9 stops at that record
pub load_stops : (b : Model) (s : JobImage) (f : Fault) → Err f ≡ load_due b s → (f.refusal.number ≡ 8) ⊎ (f.refusal.number ≡ 9) → ReachesBooking b s (Err f) f.cell
load_stops b s f e want =
    let (k, xs, ys, is) = among f want (image_reading s).records b (in_records s b f want e) in
    let (g, i, reached) = read_reached s (λ none. absurd (omega (arith, ap length none, ap length is, length-append xs (k.here ∷ ys)))) in
    let r = subst (λ zs. Reaches s zs g i) is reached in
    let l = leads_first s xs k.here ys 0 (word (cell s 0) 8) g i r.leads in
    let a = apart_first xs k.here ys r.apart in
    record {
      before = xs;
      here = k.here;
      transfer = k.transfer;
      last = l.0;
      next = l.1;
      reaches = record { long = r.long; head = r.head; leads = l.2; apart = a.0 };
      cell = sym k.cell;
      held = k.held;
      past = (λ z. absurd (omega (arith, z, k.cell, l.3)), subst (λ (c : ℕ). IsNotIn c xs) (sym k.cell) a.1);
      sender = k.sender;
      receiver = k.receiver;
    }
