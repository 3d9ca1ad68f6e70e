-- Bookings whose tickets rise: where a ticket stands, and what is left without it.
use Rattle.std.proofs.Common.{◌≡◌, ℕ, zero, suc, ◌+◌, ◌<◌, ◌≤◌, Bool, true, false, cond, not, ltb, ◌≢◌, List, [], ◌∷◌, ◌++◌, length, get_or, take, drop, map, filter, Some, None, Option, sym, refl, ap, ◌∙◌, ⊎_elim, arith}
use Rattle.std.specs.List.{remove, position_or_len, All, AllPairs}
use Rattle.std.proofs.lemmas.List.Sums.{position_or_len_is, prefix_len-le-length, fails_before_first}
use Rattle.std.proofs.lemmas.List.Quantifiers.{position-Some, all_pairs_remove}
use Rattle.std.proofs.lemmas.List.Elements.{All-append, All-take, All-drop, All-get_or, All-from_get_or}
use Rattle.std.proofs.lemmas.List.{length-map, get_or-map, get_or_default, get_or_read, get_or_append_left, get_or_push, length_push, map_push, map-append, take-map, drop-map}
use Rattle.std.proofs.lemmas.Bool.{cases_eq, cases_lt, eq-eqb, ne_eqb, eqb-true, ltb-true, ltb-false, lt-ltb, le-ltb, cond-true, cond-false}
use Rattle.ports.specs.declared.transfer.Transfer.{Transfer}
use Rattle.timetables.specs.Loads.{transfer_at}
use Rattle.bookings.specs.declared.booking.Booking.{Booking}
use Rattle.bookings.specs.Model.{transfers, booking_at, Rising, has_ticket, position_of}
use Rattle.bookings.specs.Steps.{Split}

abbrev pub none : Booking
none = record { ticket = 0; transfer = record { sender = 0; receiver = 0 } }

abbrev pub nothing : Transfer
nothing = record { sender = 0; receiver = 0 }

-- ---- lists of any elements

module _ {X : Type 0} (p : X → Bool) where
  filter_all : (xs : List X) → ((j : ℕ) (d : X) → j < length xs → p (get_or xs j d) ≡ true) → filter p xs ≡ xs
  filter_all [] h = refl
  filter_all (x ∷ xs) h = cond-true (p x) (x ∷ filter p xs) (filter p xs) (h 0 x (omega arith)) ∙ ap (λ ys. x ∷ ys) (filter_all xs (λ j d l. h (suc j) d (omega arith)))

  -- a filter that passes all but the element at i
  pub filter_but : (xs : List X) (i : ℕ) (d : X) → i < length xs → p (get_or xs i d) ≡ false → ((j : ℕ) (e : X) → j < length xs → j ≢ i → p (get_or xs j e) ≡ true) → filter p xs ≡ remove xs i
  filter_but [] i d l out h = absurd (omega arith)
  filter_but (x ∷ xs) zero d l out h = cond-false (p x) (x ∷ filter p xs) (filter p xs) out ∙ filter_all xs (λ j e m. h (suc j) e (omega arith) (λ z. omega arith))
  filter_but (x ∷ xs) (suc i) d l out h =
      cond-true (p x) (x ∷ filter p xs) (filter p xs) (h 0 x (omega arith) (λ z. omega arith))
      ∙ ap (λ ys. x ∷ ys) (filter_but xs i d (omega arith) out (λ j e m ne. h (suc j) e (omega arith) (λ z. ne (omega arith))))

-- what holds of each element holds of each that is left
pub kept : {X : Type 0} (P : X → Type 0) (xs : List X) (i : ℕ) (d : X) → ((j : ℕ) → j < length xs → P (get_or xs j d)) → (j : ℕ) → j < length (remove xs i) → P (get_or (remove xs i) j d)
kept P xs i d h j l =
    let all : All P xs = All-from_get_or P xs d h in
    All-get_or P (remove xs i) j d l (All-append P (take i xs) (drop (suc i) xs) (All-take P i xs all) (All-drop P (suc i) xs all))

-- ---- transfers

pub length_transfers : (xs : List Booking) → length (transfers xs) ≡ length xs
length_transfers xs = length-map xs (λ x. x.transfer)

pub transfer_place : (xs : List Booking) (i : ℕ) → i < length xs → transfer_at (transfers xs) i ≡ (booking_at xs i).transfer
transfer_place xs i l = get_or-map (λ x. x.transfer) xs i none nothing l

pub transfers_push : (xs : List Booking) (x : Booking) → transfers (xs ++ x ∷ []) ≡ transfers xs ++ x.transfer ∷ []
transfers_push xs x = map_push (λ y. y.transfer) xs x

pub transfers_remove : (xs : List Booking) (i : ℕ) → transfers (remove xs i) ≡ remove (transfers xs) i
transfers_remove xs i =
    let f : Booking → Transfer = λ x. x.transfer in
    map-append f (take i xs) (drop (suc i) xs) ∙ ap (λ ys. ys ++ map f (drop (suc i) xs)) (sym (take-map f i xs)) ∙ ap (λ ys. take i (map f xs) ++ ys) (sym (drop-map f (suc i) xs))

-- ---- tickets

pub rising_push : (given : ℕ) (xs : List Booking) (t : Transfer) → Rising given xs → Rising (given + 1) (xs ++ record { ticket = given + 1; transfer = t } ∷ [])
rising_push given xs t h = record { rise = rise; from = λ i m. (each i m).0; upto = λ i m. (each i m).1 }
  where
    x : Booking
    x = record { ticket = given + 1; transfer = t }

    old : (i : ℕ) → i < length xs → (booking_at (xs ++ x ∷ []) i).ticket ≡ (booking_at xs i).ticket
    old i l = ap (λ y. y.ticket) (get_or_append_left xs (x ∷ []) none i l)

    new : (i : ℕ) → length xs ≡ i → (booking_at (xs ++ x ∷ []) i).ticket ≡ given + 1
    new i e = ap (λ y. y.ticket) (get_or_push xs x none i e)

    rise : (i j : ℕ) → i < j → j < length (xs ++ x ∷ []) → (booking_at (xs ++ x ∷ []) i).ticket < (booking_at (xs ++ x ∷ []) j).ticket
    rise i j l m =
        let k : j < length xs + 1 = omega (arith, length_push xs x) in
        ⊎_elim
        (λ (n : j < length xs). omega (arith, old i (omega arith), old j n, h.rise i j l n))
        (λ (n : length xs ≤ j). omega (arith, old i (omega arith), new j (omega arith), h.upto i (omega arith)))
        (cases_lt j (length xs))

    each : (i : ℕ) → i < length (xs ++ x ∷ []) → (1 ≤ (booking_at (xs ++ x ∷ []) i).ticket) × ((booking_at (xs ++ x ∷ []) i).ticket ≤ given + 1)
    each i m =
        let k : i < length xs + 1 = omega (arith, length_push xs x) in
        ⊎_elim
        (λ (n : i < length xs). (omega (arith, old i n, h.from i n), omega (arith, old i n, h.upto i n)))
        (λ (n : length xs ≤ i). (omega (arith, new i (omega arith)), omega (arith, new i (omega arith))))
        (cases_lt i (length xs))

pub rising_remove : (given : ℕ) (xs : List Booking) (i : ℕ) → Rising given xs → i < length xs → Rising given (remove xs i)
rising_remove given xs i h l =
    let R : Booking → Booking → Type 0 = λ x y. x.ticket < y.ticket in
    let pairs : AllPairs R xs = λ j k d m n. omega (arith, h.rise j k m n, ap (λ x. x.ticket) (get_or_default xs j d none (omega arith)), ap (λ x. x.ticket) (get_or_default xs k d none n)) in
    record {
      rise = λ j k m n. all_pairs_remove R xs i l pairs j k none m n;
      from = kept (λ x. 1 ≤ x.ticket) xs i none h.from;
      upto = kept (λ x. x.ticket ≤ given) xs i none h.upto;
    }

-- a ticket stands at one place
pub differ : (given : ℕ) (xs : List Booking) → Rising given xs → (i j : ℕ) → i < length xs → j < length xs → j ≢ i → (booking_at xs j).ticket ≢ (booking_at xs i).ticket
differ given xs h i j li lj ne e =
    ⊎_elim (λ (l : i < j). omega (arith, h.rise i j l lj)) (λ (l : j ≤ i). omega (arith, h.rise j i (omega arith) li)) (cases_lt i j)

pub without : (given k : ℕ) (xs : List Booking) (i : ℕ) → Rising given xs → i < length xs → (booking_at xs i).ticket ≡ k → filter (λ x. not (has_ticket k x)) xs ≡ remove xs i
without given k xs i h l e =
    filter_but (λ x. not (has_ticket k x)) xs i none l (ap not (eq-eqb (booking_at xs i).ticket k e))
    (λ j d lj ne.
    let same : (get_or xs j d).ticket ≡ (booking_at xs j).ticket = ap (λ x. x.ticket) (get_or_default xs j d none lj) in
    ap not (ne_eqb (get_or xs j d).ticket k (λ z. differ given xs h i j l lj ne (sym same ∙ z ∙ sym e))))

pub place_found : (k i : ℕ) (xs : List Booking) → position_of k xs ≡ Some i → (i < length xs) × ((booking_at xs i).ticket ≡ k)
place_found k i xs e =
    let p = position-Some (has_ticket k) xs i none e in
    (p.0, eqb-true (booking_at xs i).ticket k p.1)

-- where k would stand
module _ (given k : ℕ) (xs : List Booking) (h : Rising given xs) where
  before : (i low : ℕ) → Split k xs low low → i < low → (booking_at xs i).ticket ≢ k
  before i low s l = omega (arith, s.below i l)

  pub place_here : (i : ℕ) → i < length xs → ((j : ℕ) → j < i → (booking_at xs j).ticket ≢ k) → (booking_at xs i).ticket ≡ k → position_of k xs ≡ Some i
  place_here i l other e =
      let p : position_or_len (has_ticket k) xs ≡ i = position_or_len_is (has_ticket k) xs i none (omega arith) (λ j m. ne_eqb (booking_at xs j).ticket k (other j m)) (λ _. eq-eqb (booking_at xs i).ticket k e) in
      ap (λ n. cond (ltb n (length xs)) (Some n) None) p ∙ cond-true (ltb i (length xs)) (Some i) None (lt-ltb i (length xs) l)

  nowhere : ((j : ℕ) → j < length xs → (booking_at xs j).ticket ≢ k) → position_of k xs ≡ None
  nowhere other =
      let p : position_or_len (has_ticket k) xs ≡ length xs = position_or_len_is (has_ticket k) xs (length xs) none (omega arith) (λ j m. ne_eqb (booking_at xs j).ticket k (other j m)) (λ m. absurd (omega arith)) in
      ap (λ n. cond (ltb n (length xs)) (Some n) None) p ∙ cond-false (ltb (length xs) (length xs)) (Some (length xs)) None (le-ltb (length xs) (length xs) (omega arith))

  ticket_read : (i : ℕ) (x : Booking) → i < length xs → x ≡ get_or xs i x → x.ticket ≡ (booking_at xs i).ticket
  ticket_read i x l read = ap (λ y. y.ticket) (get_or_read xs i x l read none)

  pub place_some : (low : ℕ) (x : Booking) → Split k xs low low → low < length xs → x ≡ get_or xs low x → x.ticket ≡ k → Some low ≡ position_of k xs
  place_some low x s l read e = sym (place_here low l (λ j m. before j low s m) (sym (ticket_read low x l read) ∙ e))

  pub place_past : (low : ℕ) → Split k xs low low → length xs ≤ low → None ≡ position_of k xs
  place_past low s l = sym (nowhere (λ j m. before j low s (omega arith)))

  pub place_none : (low : ℕ) (x : Booking) → Split k xs low low → low < length xs → x ≡ get_or xs low x → x.ticket ≢ k → None ≡ position_of k xs
  place_none low x s l read ne = sym (nowhere other)
    where
      other : (j : ℕ) → j < length xs → (booking_at xs j).ticket ≢ k
      other j m e =
          ⊎_elim
          (λ (n : j < low). before j low s n e)
          (λ (n : low ≤ j). ⊎_elim
          (λ (z : j ≡ low). ne (ticket_read low x l read ∙ ap (λ i. (booking_at xs i).ticket) (sym z) ∙ e))
          (λ (o : j ≢ low). omega (arith, s.above low (omega arith) l, h.rise low j (omega arith) m))
          (cases_eq j low))
          (cases_lt j low)

  -- one step of the halving: the ticket in the middle is lower, or it is not
  pub split_up : (low high middle : ℕ) → true ≡ ltb (booking_at xs middle).ticket k → Split k xs low high → middle < high → Split k xs (middle + 1) high
  split_up low high middle test s m =
      let less = ltb-true (booking_at xs middle).ticket k (sym test) in
      record {
        order = omega arith;
        within = s.within;
        below = λ i l. ⊎_elim
            (λ (n : i < middle). omega (arith, h.rise i middle n (omega (arith, s.within))))
            (λ (n : middle ≤ i). let e : i ≡ middle = omega arith in omega (arith, ap (λ j. (booking_at xs j).ticket) e))
            (cases_lt i middle);
        above = s.above;
      }

  pub split_down : (low high middle : ℕ) → false ≡ ltb (booking_at xs middle).ticket k → Split k xs low high → low ≤ middle → middle < high → Split k xs low middle
  split_down low high middle test s o m =
      let more = ltb-false (booking_at xs middle).ticket k (sym test) in
      record {
        order = o;
        within = omega (arith, s.within);
        below = s.below;
        above = λ i l n. ⊎_elim
            (λ (e : i ≡ middle). omega (arith, ap (λ j. (booking_at xs j).ticket) e))
            (λ (ne : i ≢ middle). omega (arith, h.rise middle i (omega arith) n))
            (cases_eq i middle);
      }

pub ruleset halving = (split_up, split_down)

pub ruleset placing = (place_some, place_past, place_none)

-- a book without the ticket
pub without_none : (k : ℕ) (xs : List Booking) → None ≡ position_of k xs → xs ≡ filter (λ x. not (has_ticket k x)) xs
without_none k xs e = sym (filter_all (λ x. not (has_ticket k x)) xs (λ j d l. ap not (fails j d l)))
  where
    past : position_or_len (has_ticket k) xs ≡ length xs
    past = ⊎_elim
        (λ (l : position_or_len (has_ticket k) xs < length xs).
        absurd (let q : ◌≡◌ {A = Option ℕ} (Some (position_or_len (has_ticket k) xs)) None = sym (cond-true _ _ _ (lt-ltb _ _ l)) ∙ sym e in let z : ◌≡◌ {A = ℕ} 0 1 = cc in omega arith))
        (λ (l : length xs ≤ position_or_len (has_ticket k) xs). omega (arith, prefix_len-le-length (λ x. not (has_ticket k x)) xs))
        (cases_lt (position_or_len (has_ticket k) xs) (length xs))

    fails : (j : ℕ) (d : Booking) → j < length xs → has_ticket k (get_or xs j d) ≡ false
    fails j d l = fails_before_first (has_ticket k) xs j d (omega (arith, past))

pub without_some : (given k i : ℕ) (xs : List Booking) → Rising given xs → Some i ≡ position_of k xs → remove xs i ≡ filter (λ x. not (has_ticket k x)) xs
without_some given k i xs h e =
    let p = place_found k i xs (sym e) in
    sym (without given k xs i h p.0 p.1)

pub place_below : (k i : ℕ) (xs : List Booking) → Some i ≡ position_of k xs → i < length xs
place_below k i xs e = (place_found k i xs (sym e)).0

pub ruleset cancelling = (without_none, without_some, place_below)
