-- Turns of a book, one transfer and one turn at a time.
use Rattle.std.proofs.Common.{◌≡◌, ℕ, zero, suc, ◌+◌, ◌-◌, ◌<◌, ◌≤◌, Bool, true, false, cond, not, ◌&&◌, eqb, leb, List, [], ◌∷◌, length, get_or, take, drop, filter, count_by, Some, Ok, Err, Result, sym, refl, ap, ◌∙◌, arith}
use Rattle.std.proofs.lemmas.List.{drop_more, drop_all, take_all, nil_from_length}
use Rattle.std.proofs.lemmas.List.Sums.{length-filter, count_by_more_yes}
use Rattle.std.proofs.lemmas.List.Filters.{length-filter_both}
use Rattle.std.proofs.lemmas.Bool.{eq-eqb, eqb-true}
use Rattle.crossbar.specs.Refusals.{Refusal, refuse}
use Rattle.ports.specs.Checks.{lines_fit, nodes_fit}
use Rattle.ports.specs.declared.transfer.Transfer.{Transfer}
use Rattle.timetables.specs.Loads.{transfer_at}
use Rattle.bookings.specs.declared.booking.Booking.{Booking}
use Rattle.bookings.specs.Model.{Model, booking_at, has_ticket, booking_due, booked, appended, left_by, fit_due, fitted}
use Rattle.book_exports.specs.Filling.{and_then, book_all, emptied, turned, turns, filling, refusal_of}

module _ {A B : Type 0} (r : Result A Refusal) (f : A → Result B Refusal) where
  after_ok : (a : A) → r ≡ Ok a → and_then r f ≡ f a
  after_ok a e = ap (λ (q : Result A Refusal). and_then q f) e

  after_err : (e : Refusal) → r ≡ Err e → and_then r f ≡ Err e
  after_err e d = ap (λ (q : Result A Refusal). and_then q f) d

-- ---- one transfer

module _ (b : Model) (ts : List Transfer) (i : ℕ) (l : i < length ts) where
  front : drop i ts ≡ transfer_at ts i ∷ drop (i + 1) ts
  front = drop_more ts i (record { sender = 0; receiver = 0 }) l

  pub book_more : (c : Model) (k : ℕ) → Ok k ≡ booking_due b (transfer_at ts i) → c ≡ booked b (transfer_at ts i) → book_all b (drop i ts) ≡ book_all c (drop (i + 1) ts)
  unfolding book_all
  book_more c k e after =
      let t : Transfer = transfer_at ts i in
      ap (book_all b) front
      ∙ after_ok (booking_due b t) (λ _. book_all (appended b t) (drop (i + 1) ts)) k (sym e)
      ∙ ap (λ (r : Result ℕ Refusal). book_all (left_by r b (appended b t)) (drop (i + 1) ts)) e
      ∙ ap (λ (c : Model). book_all c (drop (i + 1) ts)) (sym after)

  pub book_fails : (e : Refusal) → Err e ≡ booking_due b (transfer_at ts i) → book_all b (drop i ts) ≡ Err e
  unfolding book_all
  book_fails e d =
      let t : Transfer = transfer_at ts i in
      ap (book_all b) front ∙ after_err (booking_due b t) (λ _. book_all (appended b t) (drop (i + 1) ts)) e (sym d)

pub book_end : (b : Model) (ts : List Transfer) (i : ℕ) → length ts ≤ i → book_all b (drop i ts) ≡ Ok b
unfolding book_all
book_end b ts i l = ap (book_all b) (drop_all i ts l)

pub ruleset booking = (book_more, book_fails, book_end)

-- ---- the last ticket

-- a filter that does not pass some element passes fewer
filter_less : {X : Type 0} (p : X → Bool) (xs : List X) (i : ℕ) (d : X) → i + 1 ≡ length xs → p (get_or xs i d) ≡ true → length (filter (λ x. not (p x)) xs) < length xs
filter_less p xs i d l e =
    let all : take (i + 1) xs ≡ xs = take_all (i + 1) xs (omega arith) in
    let some : count_by p (take (i + 1) xs) ≡ count_by p (take i xs) + 1 = count_by_more_yes p xs i d (omega arith) e in
    omega (arith, length-filter p xs, length-filter_both p (λ x. not (p x)) (λ x. refl) xs, some, ap (count_by p) all)

pub cancelled_less : (xs : List Booking) (k : ℕ) → 0 < length xs → k ≡ (booking_at xs (length xs - 1)).ticket → length (filter (λ x. not (has_ticket k x)) xs) < length xs
cancelled_less xs k some e =
    filter_less (has_ticket k) xs (length xs - 1) (record { ticket = 0; transfer = record { sender = 0; receiver = 0 } }) (omega arith)
    (eq-eqb (booking_at xs (length xs - 1)).ticket k (sym e))

pub no_more : (b : Model) → length b.live ≡ 0 → b ≡ emptied b
no_more b none = ap (λ (xs : List Booking). record { m = b.m; n = b.n; rounds = b.rounds; given = b.given; live = xs }) (nil_from_length b.live none)

pub ruleset cancelling = (cancelled_less, no_more)

-- ---- one turn

pub turn_ok : (b c d e : Model) (ts : List Transfer) → book_all b ts ≡ Ok c → d ≡ c → e ≡ emptied d → turned b ts ≡ Ok e
unfolding turned
turn_ok b c d e ts all again none = after_ok (book_all b ts) (λ c. Ok (emptied c)) c all ∙ ap (λ (x : Model). Ok (emptied x)) (sym again) ∙ ap (λ (x : Model). Ok x) (sym none)

pub turn_done : (b c : Model) (ts : List Transfer) → book_all b ts ≡ Ok c → turned b ts ≡ Ok (emptied c)
turn_done b c ts e = turn_ok b c c (emptied c) ts e refl refl

pub turn_err : (b : Model) (e : Refusal) (ts : List Transfer) → book_all b ts ≡ Err e → turned b ts ≡ Err e
unfolding turned
turn_err b e ts d = after_err (book_all b ts) (λ c. Ok (emptied c)) e d

pub ruleset turning = (turn_ok, turn_err)

-- ---- so many turns

pub none_done : (b : Model) (ts : List Transfer) → turns 0 b ts ≡ Ok b
unfolding turns
none_done b ts = refl

-- one turn more, however it ends
pub turns_more : (i : ℕ) (b c : Model) (ts : List Transfer) (r : Result Model Refusal) → turns i b ts ≡ Ok c → turned c ts ≡ r → turns (i + 1) b ts ≡ r
unfolding turns
turns_more i b c ts r e d =
    let one : i + 1 ≡ suc i = omega arith in
    ap (λ (k : ℕ). turns k b ts) one ∙ after_ok (turns i b ts) (λ c. turned c ts) c e ∙ d

-- no turn follows a refusal
stuck : (d i : ℕ) (b : Model) (ts : List Transfer) (e : Refusal) → turns i b ts ≡ Err e → turns (d + i) b ts ≡ Err e
unfolding turns
stuck zero i b ts e h = ap (λ (k : ℕ). turns k b ts) (let z : 0 + i ≡ i = omega arith in z) ∙ h
stuck (suc d) i b ts e h =
    let one : suc d + i ≡ suc (d + i) = omega arith in
    ap (λ (k : ℕ). turns k b ts) one ∙ after_err (turns (d + i) b ts) (λ c. turned c ts) e (stuck d i b ts e h)

pub turns_end : (i times : ℕ) (b c : Model) (ts : List Transfer) (e : Refusal) → turns i b ts ≡ Ok c → turned c ts ≡ Err e → i < times → turns times b ts ≡ Err e
turns_end i times b c ts e h d l =
    let all : (times - (i + 1)) + (i + 1) ≡ times = omega arith in
    ap (λ (k : ℕ). turns k b ts) (sym all) ∙ stuck (times - (i + 1)) (i + 1) b ts e (turns_more i b c ts (Err e) h d)

pub ruleset repeating = (none_done, turns_more, turns_end)

-- one turn more is refused where it or one before it is
pub last_err : (i : ℕ) (b : Model) (ts : List Transfer) (e : Refusal) → turns i b ts ≡ Err e → turns (i + 1) b ts ≡ Err e
last_err i b ts e h = ap (λ (k : ℕ). turns k b ts) (let z : i + 1 ≡ 1 + i = omega arith in z) ∙ stuck 1 i b ts e h

-- ---- the sizes and the number of rounds

module _ (b : Model) (served : Bool) (m n R times : ℕ) (ts : List Transfer) where
  pub unfit : (e : Refusal) → Err e ≡ fit_due b served m n R → Some e ≡ refusal_of (filling b served m n R times ts)
  unfolding filling
  unfit e d = ap (λ (r : Result Model Refusal). refusal_of r) (sym (after_err (fit_due b served m n R) (λ _. turns times (fitted b served m n R) ts) e (sym d)))

  pub fit : (c : Model) (r : Result Model Refusal) → Ok tt ≡ fit_due b served m n R → c ≡ fitted b served m n R → turns times c ts ≡ r → refusal_of r ≡ refusal_of (filling b served m n R times ts)
  unfolding filling
  fit c r d e h =
      ap (λ (r : Result Model Refusal). refusal_of r)
      (sym h ∙ ap (λ (c : Model). turns times c ts) e ∙ sym (after_ok (fit_due b served m n R) (λ _. turns times (fitted b served m n R) ts) tt (sym d)))

-- a test that was passed
passed : (x : Bool) (r : Result (Unit {0}) Refusal) (k : ℕ) → Ok tt ≡ cond x r (refuse k) → (x ≡ true) × (Ok tt ≡ r)
passed true r k h = (refl, h)
passed false r k h = absurd (let z : ◌≡◌ {A = ℕ} 0 1 = cc in omega arith)

-- a book that is fit has no transfer live, and the sizes and rounds that were asked for
pub fit_gives : (b : Model) (served : Bool) (m n R : ℕ) → Ok tt ≡ fit_due b served m n R → fitted b served m n R ≡ record { m = m; n = n; rounds = R; given = b.given; live = [] }
fit_gives b served m n R d =
    let last : Result (Unit {0}) Refusal = cond (eqb (length b.live) 0) (Ok tt) (refuse 5) in
    let fourth : Result (Unit {0}) Refusal = cond served last (refuse 4) in
    let third : Result (Unit {0}) Refusal = cond (leb 1 R && leb R 64) fourth (refuse 3) in
    let second : Result (Unit {0}) Refusal = cond (nodes_fit n) third (refuse 2) in
    let live = passed (eqb (length b.live) 0) (Ok tt) 5 (passed served last 4 (passed (leb 1 R && leb R 64) fourth 3 (passed (nodes_fit n) third 2 (passed (lines_fit m) second 1 d).1).1).1).1 in
    let none : b.live ≡ [] = nil_from_length b.live (eqb-true (length b.live) 0 live.0) in
    let whole : Model = record { m = m; n = n; rounds = R; given = b.given; live = b.live } in
    ap (λ (r : Result (Unit {0}) Refusal). left_by r b whole) (sym d) ∙ ap (λ (xs : List Booking). record { m = m; n = n; rounds = R; given = b.given; live = xs }) none
