-- What a table holds stays true of it after a booking, and after a cancelling.
use Rattle.std.proofs.Common.{◌≡◌, ℕ, ◌+◌, ◌-◌, ◌*◌, ◌<◌, ◌≤◌, true, List, [], ◌∷◌, ◌++◌, length, get_or, set, sym, refl, ap, subst, ◌∙◌, ⊎_elim, arith, mul-le-mul_left, mul-le-mul_right}
use Rattle.std.specs.List.{remove}
use Rattle.std.proofs.lemmas.List.{get_or_append_left, get_or_push, get_or_read, length_push}
use Rattle.std.proofs.lemmas.Bool.{cases_lt}
use Rattle.ports.specs.declared.transfer.Transfer.{Transfer}
use Rattle.ports.specs.Checks.{lines_fit, nodes_fit}
use Rattle.ports.proofs.Places.{at_most_32, at_most_16}
use Rattle.timetables.specs.Loads.{transfer_at, LoadsWithin, BetweenNodes}
use Rattle.bookings.specs.declared.booking.Booking.{Booking}
use Rattle.bookings.specs.Model.{transfers}
use Rattle.bookings.specs.Counts.{Counted}
use Rattle.bookings.specs.Steps.{Bookable}
use Rattle.bookings.proofs.Counting.{one, one_same, set_less, load_remove, load_within, counted_push}
use Rattle.bookings.proofs.Tickets.{none, nothing, length_transfers, transfer_place, transfers_push, transfers_remove, kept}

-- nodes are below 512
pub below_512 : (m n v : ℕ) → lines_fit m ≡ true → nodes_fit n ≡ true → v < m * n → v < 512
below_512 m n v h k l =
    let a : m ≤ 32 = at_most_32 m h in
    let b : n ≤ 16 = at_most_16 n k in
    omega (arith, mul-le-mul_left m b, mul-le-mul_right 16 a)

-- one transfer more
module _ (ts : List Transfer) (t : Transfer) where
  pub between_push : (m n : ℕ) → t.sender < m * n → t.receiver < m * n → BetweenNodes m n ts → BetweenNodes m n (ts ++ t ∷ [])
  between_push m n s r h i l =
      let P : Transfer → Type 0 = λ x. (x.sender < m * n) × (x.receiver < m * n) in
      ⊎_elim
      (λ (k : i < length ts). subst P (sym (get_or_append_left ts (t ∷ []) nothing i k)) (h i k))
      (λ (k : length ts ≤ i). subst P (sym (get_or_push ts t nothing i (omega (arith, length_push ts t)))) (s, r))
      (cases_lt i (length ts))

  within_push : (m n R : ℕ) → Bookable m n R ts t → LoadsWithin R ts → LoadsWithin R (ts ++ t ∷ [])
  within_push m n R f h v = (load_within (λ x. x.sender) ts t R (λ u. (h u).0) f.sends v, load_within (λ x. x.receiver) ts t R (λ u. (h u).1) f.receives v)

-- one transfer less
module _ (ts : List Transfer) (i : ℕ) (l : i < length ts) where
  between_remove : (m n : ℕ) → BetweenNodes m n ts → BetweenNodes m n (remove ts i)
  between_remove m n h = kept (λ x. (x.sender < m * n) × (x.receiver < m * n)) ts i nothing h

  within_remove : (R : ℕ) → LoadsWithin R ts → LoadsWithin R (remove ts i)
  within_remove R h v = (omega (arith, load_remove (λ x. x.sender) ts i nothing l v, (h v).0), omega (arith, load_remove (λ x. x.receiver) ts i nothing l v, (h v).1))

  -- the transfer was counted
  counted_some : (sent received : List ℕ) → Counted sent received ts → (0 < get_or sent (transfer_at ts i).sender 0) × (0 < get_or received (transfer_at ts i).receiver 0)
  counted_some sent received h =
      let t : Transfer = transfer_at ts i in (
        omega (arith, load_remove (λ x. x.sender) ts i nothing l t.sender, one_same t.sender t.sender refl, h.sends t.sender),
        omega (arith, load_remove (λ x. x.receiver) ts i nothing l t.receiver, one_same t.receiver t.receiver refl, h.receives t.receiver),
      )

  counted_remove : (sent received : List ℕ) (t : Transfer) → t ≡ transfer_at ts i → Counted sent received ts → t.sender < length sent → t.receiver < length received
      → Counted (set sent t.sender (get_or sent t.sender 0 - 1)) (set received t.receiver (get_or received t.receiver 0 - 1)) (remove ts i)
  counted_remove sent received t e h s r =
      let some : (0 < get_or sent t.sender 0) × (0 < get_or received t.receiver 0) = rw e (counted_some sent received h) in
      record {
        sends = λ v. omega (arith, set_less sent t.sender s some.0 v, load_remove (λ x. x.sender) ts i nothing l v, ap (λ (x : Transfer). one x.sender v) e, h.sends v);
        receives = λ v. omega (arith, set_less received t.receiver r some.1 v, load_remove (λ x. x.receiver) ts i nothing l v, ap (λ (x : Transfer). one x.receiver v) e, h.receives v);
      }

-- the same of a table's live transfers, where one more stands last
module _ (xs ys : List Booking) (x : Booking) (e : ys ≡ xs ++ x ∷ []) where
  more : transfers ys ≡ transfers xs ++ x.transfer ∷ []
  more = ap transfers e ∙ transfers_push xs x

  pub more_between : (m n R : ℕ) → Bookable m n R (transfers xs) x.transfer → BetweenNodes m n (transfers xs) → BetweenNodes m n (transfers ys)
  more_between m n R f h = subst (BetweenNodes m n) (sym more) (between_push (transfers xs) x.transfer m n f.sender f.receiver h)

  pub more_within : (m n R : ℕ) → Bookable m n R (transfers xs) x.transfer → LoadsWithin R (transfers xs) → LoadsWithin R (transfers ys)
  more_within m n R f h = subst (LoadsWithin R) (sym more) (within_push (transfers xs) x.transfer m n R f h)

  pub more_counted : (sent received sent' received' : List ℕ) → Counted sent received (transfers xs) → x.transfer.sender < length sent → x.transfer.receiver < length received
      → sent' ≡ set sent x.transfer.sender (get_or sent x.transfer.sender 0 + 1) → received' ≡ set received x.transfer.receiver (get_or received x.transfer.receiver 0 + 1) → Counted sent' received' (transfers ys)
  more_counted sent received sent' received' h s r f g = rw (f, g, more) (counted_push (transfers xs) x.transfer sent received h s r)

-- and where the one at place i is taken out
module _ (xs : List Booking) (i : ℕ) (l : i < length xs) where
  short : i < length (transfers xs)
  short = omega (arith, length_transfers xs)

  module _ (ys : List Booking) (e : ys ≡ remove xs i) where
    fewer : transfers ys ≡ remove (transfers xs) i
    fewer = ap transfers e ∙ transfers_remove xs i

    pub fewer_between : (m n : ℕ) → BetweenNodes m n (transfers xs) → BetweenNodes m n (transfers ys)
    fewer_between m n h = subst (BetweenNodes m n) (sym fewer) (between_remove (transfers xs) i short m n h)

    pub fewer_within : (R : ℕ) → LoadsWithin R (transfers xs) → LoadsWithin R (transfers ys)
    fewer_within R h = subst (LoadsWithin R) (sym fewer) (within_remove (transfers xs) i short R h)

    pub fewer_counted : (sent received sent' received' : List ℕ) (t : Transfer) → t ≡ transfer_at (transfers xs) i → Counted sent received (transfers xs) → t.sender < length sent → t.receiver < length received
        → sent' ≡ set sent t.sender (get_or sent t.sender 0 - 1) → received' ≡ set received t.receiver (get_or received t.receiver 0 - 1) → Counted sent' received' (transfers ys)
    fewer_counted sent received sent' received' t z h s r f g = rw (f, g, fewer) (counted_remove (transfers xs) i short sent received t z h s r)

  -- what is known of the transfer that is taken out
  pub record Stands (sent received : List ℕ) (t : Transfer) : Type 0 where
    pub at : t ≡ transfer_at (transfers xs) i
    pub sender : t.sender < 512
    pub receiver : t.receiver < 512
    pub sends : 0 < get_or sent t.sender 0
    pub receives : 0 < get_or received t.receiver 0

  pub stands : (x : Booking) (m n : ℕ) (sent received : List ℕ) → x ≡ get_or xs i x → lines_fit m ≡ true → nodes_fit n ≡ true → BetweenNodes m n (transfers xs) → Counted sent received (transfers xs) → Stands sent received x.transfer
  stands x m n sent received read a b h c =
      let at : x.transfer ≡ transfer_at (transfers xs) i = ap (λ y. y.transfer) (get_or_read xs i x l read none) ∙ sym (transfer_place xs i l) in
      let some = counted_some (transfers xs) i short sent received c in
      record {
        at = at;
        sender = omega (arith, ap (λ (t : Transfer). t.sender) at, below_512 m n (transfer_at (transfers xs) i).sender a b (h i short).0);
        receiver = omega (arith, ap (λ (t : Transfer). t.receiver) at, below_512 m n (transfer_at (transfers xs) i).receiver a b (h i short).1);
        sends = rw at some.0;
        receives = rw at some.1;
      }
