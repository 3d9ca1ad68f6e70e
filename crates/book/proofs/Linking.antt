-- The places of each round as linked lists: how they are linked, and how one of them is followed.
use Rattle.std.proofs.Common.{◌≡◌, ℕ, ◌+◌, ◌-◌, ◌<◌, ◌≤◌, Bool, false, eqb, List, [], ◌∷◌, ◌++◌, length, get_or, Some, None, Option, refl, sym, ap, ◌∙◌, arith, add-one}
use Rattle.std.proofs.lemmas.Bool.{eq-eqb, ne_eqb}
use Rattle.std.proofs.lemmas.List.{get_or-map, map-append, length-map}
use Rattle.ports.specs.declared.transfer.Transfer.{Transfer}
use Rattle.timetables.specs.declared.seat.Seat.{Seat}
use Rattle.timetables.specs.Loads.{transfer_at}
use Rattle.bookings.specs.declared.booking.Booking.{Booking}
use Rattle.bookings.specs.Model.{transfers}
use Rattle.timetables.specs.Timetables.{seat_at}
use Rattle.book.specs.Parts.{First, Linked, SameRounds, places_of, line_at, lines_at}
use Rattle.book.proofs.Lists.{listed, listed_yes, listed_skip, lists, cnt_below}

module _ (ss : List Seat) where
  -- the places from i on are linked
  pub record Tail (i : ℕ) (firsts nexts : List (Option ℕ)) : Type 0 where
    pub first : (k : ℕ) → k < 64 → First ss k i (get_or firsts k None)
    pub next : (j : ℕ) → i ≤ j → j < length ss → First ss (seat_at ss j).round (j + 1) (get_or nexts j None)

  -- whether the seat at a place has round k
  abbrev pub in_round : ℕ → ℕ → Bool
  in_round k i = eqb (seat_at ss i).round k

  -- where the list goes on: at the next place of its round, or past the last one
  abbrev pub upto : Option ℕ → ℕ
  upto (Some p) = p
  upto None = length ss

  abbrev pub IsOf : ℕ → Option ℕ → Type 0
  IsOf k (Some p) = (p < length ss) × ((seat_at ss p).round ≡ k)
  IsOf k None = Unit {0}

  -- the places of round k before the next one are gathered
  unfoldable pub Gathered : ℕ → Option ℕ → List ℕ → Type 0
  Gathered k o ps = IsOf k o × (ps ≡ listed (in_round k) (upto o))

  none_between : (k i : ℕ) (o : Option ℕ) → i ≤ length ss → First ss k i o → (i ≤ upto o) × ((j : ℕ) → i ≤ j → j < upto o → in_round k j ≡ false) × IsOf k o
  none_between k i (Some p) l h = (h.0, λ j a b. ne_eqb (seat_at ss j).round k (h.3 j a b), (h.1, h.2))
  none_between k i None l h = (l, λ j a b. ne_eqb (seat_at ss j).round k (h j a b), tt)

  pub gather_end : (k : ℕ) (o : Option ℕ) (ps : List ℕ) → Gathered k o ps → o ≡ None → ps ≡ places_of k ss
  unfolding Gathered places_of
  gather_end k o ps g e = g.1 ∙ ap (λ (x : Option ℕ). listed (in_round k) (upto x)) e

  -- there is room for the next place
  pub gather_room : (k p : ℕ) (o : Option ℕ) (ps : List ℕ) → Gathered k o ps → o ≡ Some p → (p < length ss) × (length ps < length ss)
  unfolding Gathered
  gather_room k p o ps g e =
      let h : IsOf k (Some p) × (ps ≡ listed (in_round k) p) = rw e at g in
      (h.0.0, omega (arith, ap length h.1, (lists (in_round k) p).count, cnt_below (in_round k) p, h.0.0))

  upto_low : (k : ℕ) (o : Option ℕ) → IsOf k o → upto o ≤ length ss
  upto_low k (Some q) h = omega (arith, h.0)
  upto_low k None h = omega arith

  module _ (firsts nexts : List (Option ℕ)) (h : Linked ss firsts nexts) where
    pub follow_first : (k : ℕ) (o : Option ℕ) (ps : List ℕ) → k < 64 → o ≡ get_or firsts k None → ps ≡ [] → Gathered k o ps
    unfolding Gathered
    follow_first k o ps low is none =
        let b = none_between k 0 o (omega arith) (rw is (h.first k low)) in
        (b.2, none ∙ sym (listed_skip (in_round k) 0 (upto o) b.0 b.1))

    -- o is the next place, or none, and p the next after it
    module _ (k p : ℕ) (o o' : Option ℕ) (ps : List ℕ) (g : Gathered k o ps) (e : o ≡ Some p) (is : o' ≡ get_or nexts p None) where
      here : (p < length ss) × ((seat_at ss p).round ≡ k) × (ps ≡ listed (in_round k) p)
      unfolding Gathered
      here = let h : IsOf k (Some p) × (ps ≡ listed (in_round k) p) = rw e at g in (h.0.0, h.0.1, h.1)

      on : (p + 1 ≤ upto o') × ((j : ℕ) → p + 1 ≤ j → j < upto o' → in_round k j ≡ false) × IsOf k o'
      on =
          let f : First ss (seat_at ss p).round (p + 1) o' = rw is (h.next p here.0) in
          none_between k (p + 1) o' (omega (arith, here.0)) (rw here.1 at f)

      pub follow_next : (qs : List ℕ) → qs ≡ ps ++ (p ∷ []) → Gathered k o' qs
      unfolding Gathered
      follow_next qs more = (
        on.2,
        more ∙ ap (λ (xs : List ℕ). xs ++ (p ∷ [])) here.2 ∙ sym (rw add-one (listed_yes (in_round k) p (eq-eqb (seat_at ss p).round k here.1))) ∙ sym (listed_skip (in_round k) (p + 1) (upto o') on.0 on.1),
      )

      pub follow_smaller : length ss - upto o' < length ss - upto o
      follow_smaller = rw e (omega (arith, on.0, upto_low k o' on.2, here.0))

pub transfer_of : (live : List Booking) (p : ℕ) (d : Booking) → p < length live → transfer_at (transfers live) p ≡ (get_or live p d).transfer
transfer_of live p d l = get_or-map (λ y. y.transfer) live p d (record { sender = 0; receiver = 0 }) l

pub lines_long : (n : ℕ) (ts : List Transfer) (ps : List ℕ) → length (lines_at n ts ps) ≡ length ps
unfolding lines_at
lines_long n ts ps = length-map ps (line_at n ts)

pub lines_none : (n : ℕ) (ts : List Transfer) → lines_at n ts [] ≡ []
unfolding lines_at
lines_none n ts = refl

pub lines_more : (n : ℕ) (ts : List Transfer) (ps : List ℕ) (p : ℕ) → lines_at n ts (ps ++ (p ∷ [])) ≡ lines_at n ts ps ++ (line_at n ts p ∷ [])
unfolding lines_at
lines_more n ts ps p = map-append (line_at n ts) ps (p ∷ [])

pub ruleset gathering = (gather_end, gather_room, follow_first, follow_next, follow_smaller, lines_long, lines_none, lines_more)

-- the rounds alone count
module _ (old new : List Seat) (s : SameRounds old new) where
  first_kept : (k i : ℕ) (o : Option ℕ) → First old k i o → First new k i o
  first_kept k i (Some p) h = (h.0, omega (arith, s.each, h.1), s.same p ∙ h.2, λ j a b. rw (s.same j) (h.3 j a b))
  first_kept k i None h = λ j a b. rw (s.same j) (h j a (omega (arith, s.each)))

  pub linked_kept : (firsts nexts : List (Option ℕ)) → Linked old firsts nexts → Linked new firsts nexts
  linked_kept firsts nexts h = record {
    first = λ k l. first_kept k 0 (get_or firsts k None) (h.first k l);
    next = λ i l. rw (s.same i) (first_kept (seat_at old i).round (i + 1) (get_or nexts i None) (h.next i (omega (arith, s.each))));
  }
