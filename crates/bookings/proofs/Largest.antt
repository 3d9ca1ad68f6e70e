-- The largest load of some transfers, with one transfer more.
use Rattle.std.proofs.Common.{◌≡◌, ℕ, zero, suc, ◌+◌, ◌<◌, ◌≤◌, cond, eqb, max, ◌≢◌, List, [], ◌∷◌, ◌++◌, length, get_or, set, take, map, true, sym, ap, refl, ◌∙◌, ⊎_elim, arith}
use Rattle.std.proofs.lemmas.List.Sums.{sum_by-take-le}
use Rattle.std.proofs.lemmas.List.{get_or_append_left, get_or_push, length_push, take_more, take_all}
use Rattle.std.proofs.lemmas.Bool.{cases_eq, cases_lt}
use Rattle.ports.specs.declared.transfer.Transfer.{Transfer}
use Rattle.ports.specs.Checks.{lines_fit, nodes_fit}
use Rattle.timetables.specs.Loads.{sends, receives, greatest, largest_load, transfer_at, LoadsWithin, BetweenNodes}
use Rattle.bookings.specs.declared.booking.Booking.{Booking}
use Rattle.bookings.specs.Model.{transfers, booking_at}
use Rattle.bookings.specs.Counts.{Counted}
use Rattle.bookings.proofs.Tickets.{nothing, length_transfers, transfer_place}
use Rattle.bookings.proofs.Counting.{one_same, one_other, load_push, counted_push}
use Rattle.bookings.proofs.Keeps.{below_512}

module _ {X : Type 0} (f : X → ℕ) where
  greatest_over : (xs : List X) (i : ℕ) (d : X) → i < length xs → f (get_or xs i d) ≤ greatest (map f xs)
  greatest_over [] i d l = absurd (omega arith)
  greatest_over (x ∷ xs) zero d l = omega arith
  greatest_over (x ∷ xs) (suc i) d l = omega (arith, greatest_over xs i d (omega arith))

  greatest_under : (xs : List X) (b : ℕ) (d : X) → ((i : ℕ) → i < length xs → f (get_or xs i d) ≤ b) → greatest (map f xs) ≤ b
  greatest_under [] b d h = omega arith
  greatest_under (x ∷ xs) b d h = omega (arith, h 0 (omega arith), greatest_under xs b d (λ i l. h (suc i) (omega arith)))

-- the load of the two nodes of a transfer, whichever is larger
abbrev pub load_of : List Transfer → Transfer → ℕ
load_of ts t = max (sends t.sender ts) (receives t.receiver ts)

-- one transfer more: only the loads of its two nodes rise
module _ (ts : List Transfer) (t : Transfer) where
  rises : (u : Transfer) → load_of ts u ≤ load_of (ts ++ t ∷ []) u
  rises u = omega (arith, load_push (λ x. x.sender) ts t u.sender, load_push (λ x. x.receiver) ts t u.receiver)

  only : (u : Transfer) (b : ℕ) → load_of ts u ≤ b → load_of (ts ++ t ∷ []) t ≤ b → load_of (ts ++ t ∷ []) u ≤ b
  only u b old new =
      let s : sends u.sender (ts ++ t ∷ []) ≤ b =
      ⊎_elim
      (λ (e : t.sender ≡ u.sender). omega (arith, ap (λ v. sends v (ts ++ t ∷ [])) e))
      (λ (ne : t.sender ≢ u.sender). omega (arith, load_push (λ x. x.sender) ts t u.sender, one_other t.sender u.sender ne))
      (cases_eq t.sender u.sender) in
      let r : receives u.receiver (ts ++ t ∷ []) ≤ b =
      ⊎_elim
      (λ (e : t.receiver ≡ u.receiver). omega (arith, ap (λ v. receives v (ts ++ t ∷ [])) e))
      (λ (ne : t.receiver ≢ u.receiver). omega (arith, load_push (λ x. x.receiver) ts t u.receiver, one_other t.receiver u.receiver ne))
      (cases_eq t.receiver u.receiver) in
      omega arith

  old_at : (i : ℕ) → i < length ts → load_of (ts ++ t ∷ []) (transfer_at (ts ++ t ∷ []) i) ≡ load_of (ts ++ t ∷ []) (transfer_at ts i)
  old_at i l = ap (load_of (ts ++ t ∷ [])) (get_or_append_left ts (t ∷ []) nothing i l)

  new_at : (i : ℕ) → length ts ≡ i → load_of (ts ++ t ∷ []) (transfer_at (ts ++ t ∷ []) i) ≡ load_of (ts ++ t ∷ []) t
  new_at i e = ap (load_of (ts ++ t ∷ [])) (get_or_push ts t nothing i e)

  pub largest_push : largest_load (ts ++ t ∷ []) ≡ max (largest_load ts) (load_of (ts ++ t ∷ []) t)
  largest_push =
      let all : List Transfer = ts ++ t ∷ [] in
      let long : length (ts ++ t ∷ []) ≡ length ts + 1 = length_push ts t in
      let over_new = greatest_over (load_of (ts ++ t ∷ [])) (ts ++ t ∷ []) (length ts) nothing (omega arith) in
      let over_old = greatest_under (load_of ts) ts (largest_load (ts ++ t ∷ [])) nothing (λ i l.
      omega (arith, rises (transfer_at ts i), old_at i l, greatest_over (load_of (ts ++ t ∷ [])) (ts ++ t ∷ []) i nothing (omega arith))) in
      let under = greatest_under (load_of (ts ++ t ∷ [])) (ts ++ t ∷ []) (max (largest_load ts) (load_of (ts ++ t ∷ []) t)) nothing (λ i l.
      ⊎_elim
      (λ (m : i < length ts). omega (arith, old_at i m, only (transfer_at ts i) (max (largest_load ts) (load_of (ts ++ t ∷ []) t)) (omega (arith, greatest_over (load_of ts) ts i nothing m)) (omega arith)))
      (λ (m : length ts ≤ i). omega (arith, new_at i (omega arith)))
      (cases_lt i (length ts))) in
      omega (arith, under, over_old, over_new, new_at (length ts) refl)

-- the first i of some bookings are counted, and the largest load among them is known
pub record Seen (xs : List Booking) (i : ℕ) (sent received : List ℕ) (most : ℕ) : Type 0 where
  pub counted : Counted sent received (take i (transfers xs))
  pub largest : most ≡ largest_load (take i (transfers xs))

pub seen_none : (xs : List Booking) (sent received : List ℕ) → Counted sent received [] → Seen xs 0 sent received 0
seen_none xs sent received h = record { counted = h; largest = refl }

pub seen_all : (xs : List Booking) (i : ℕ) (sent received : List ℕ) (most : ℕ) → Seen xs i sent received most → length xs ≤ i → most ≡ largest_load (transfers xs)
seen_all xs i sent received most s l = s.largest ∙ ap largest_load (take_all i (transfers xs) (omega (arith, length_transfers xs)))

-- what is known of the next transfer, of nodes below 512
pub record Next (sent received : List ℕ) (t : Transfer) : Type 0 where
  pub sender : t.sender < length sent
  pub receiver : t.receiver < length received
  pub send_room : get_or sent t.sender 0 < 255
  pub receive_room : get_or received t.receiver 0 < 255

-- one transfer more is counted
module _ (xs : List Booking) (i : ℕ) (sent received : List ℕ) (most : ℕ) (s : Seen xs i sent received most) (l : i < length xs) (t : Transfer) (at : t ≡ (booking_at xs i).transfer) where
  inside : i < length (transfers xs)
  inside = omega (arith, length_transfers xs)

  standing : t ≡ transfer_at (transfers xs) i
  standing = at ∙ sym (transfer_place xs i l)

  pub seen_next : (m n R : ℕ) → lines_fit m ≡ true → nodes_fit n ≡ true → BetweenNodes m n (transfers xs) → LoadsWithin R (transfers xs) → R ≤ 64 → length sent ≡ 512 → length received ≡ 512 → Next sent received t
  seen_next m n R a b h w few ls lr = record {
    sender = omega (arith, ap (λ (u : Transfer). u.sender) standing, below_512 m n (transfer_at (transfers xs) i).sender a b (h i inside).0);
    receiver = omega (arith, ap (λ (u : Transfer). u.receiver) standing, below_512 m n (transfer_at (transfers xs) i).receiver a b (h i inside).1);
    send_room = omega (arith, s.counted.sends t.sender, sum_by-take-le (λ x. cond (eqb x.sender t.sender) 1 0) (transfers xs) i, (w t.sender).0);
    receive_room = omega (arith, s.counted.receives t.receiver, sum_by-take-le (λ x. cond (eqb x.receiver t.receiver) 1 0) (transfers xs) i, (w t.receiver).1);
  }

  pub seen_more : t.sender < length sent → t.receiver < length received → (sent' received' : List ℕ) (larger most' : ℕ)
      → sent' ≡ set sent t.sender (get_or sent t.sender 0 + 1) → received' ≡ set received t.receiver (get_or received t.receiver 0 + 1)
      → larger ≡ max (get_or sent t.sender 0 + 1) (get_or received t.receiver 0 + 1) → most' ≡ max most larger → Seen xs (i + 1) sent' received' most'
  seen_more ls lr sent' received' larger most' f g k m =
      let ts : List Transfer = take i (transfers xs) in
      let next : take (i + 1) (transfers xs) ≡ ts ++ t ∷ [] = take_more (transfers xs) i nothing inside ∙ ap (λ (u : Transfer). take i (transfers xs) ++ u ∷ []) (sym standing) in
      record {
        counted = rw (f, g, next) (counted_push ts t sent received s.counted ls lr);
        largest = rw next (omega (arith, s.largest, largest_push ts t, load_push (λ x. x.sender) ts t t.sender, load_push (λ x. x.receiver) ts t t.receiver, one_same t.sender t.sender refl, one_same t.receiver t.receiver refl, s.counted.sends t.sender, s.counted.receives t.receiver));
      }

pub ruleset counting = (seen_none, seen_all)
