-- What the calls of a book answer: when a booking wants rounds, and where a header leads.
use Rattle.std.proofs.Common.{◌&&◌, eqb, leb, ◌≡◌, ℕ, ◌+◌, ◌*◌, ◌<◌, ◌≤◌, Bool, true, false, cond, ltb, ◌⊎◌, ◌↔◌, List, [], ◌∷◌, ◌++◌, length, get_or, Ok, Err, Result, sym, refl, ap, ◌∙◌, inl, inr, subst, arith, ltb-true}
use Rattle.std.proofs.lemmas.List.{get_or_default}
use Rattle.std.proofs.lemmas.Bool.{cond-true, ltb-false, le-ltb}
use Rattle.crossbar.specs.declared.refusal.RouteRefusal.{RouteRefusal}
use Rattle.crossbar.specs.Refusals.{Refusal, refusal, refuse, refuse_node, told}
use Rattle.ports.specs.declared.transfer.Transfer.{Transfer}
use Rattle.ports.specs.Nodes.{is_node}
use Rattle.ports.specs.Checks.{lines_fit, nodes_fit}
use Rattle.cabinet.specs.Wiring.{Meaning, headed}
use Rattle.cabinet.specs.Laws.{Placed, Meeting}
use Rattle.cabinet.proofs.Accepted.{told_of}
use Rattle.timetables.specs.declared.seat.Seat.{Seat}
use Rattle.timetables.specs.Loads.{sends, receives, LoadsWithin, BetweenNodes}
use Rattle.timetables.specs.Timetables.{Timetabled, ClashFree}
use Rattle.timetables.proofs.Exists.{no_timetable}
use Rattle.bookings.specs.Model.{Model, transfers, booking_at, left_by, fitted, booking_due}
use Rattle.bookings.proofs.Facts.{length_transfers, transfer_place, between_push}
use Rattle.book.specs.Calls.{WantsRounds, FullExactly}

-- the tests of two nodes for rounds, and then those for room and tickets
abbrev rounds_due : Bool → Bool → ℕ → ℕ → Result (Unit {0}) Refusal
rounds_due s r a b = cond s (cond r (Ok tt) (refuse_node 9 b)) (refuse_node 8 a)

abbrev then_due : Result (Unit {0}) Refusal → Bool → Bool → ℕ → Result ℕ Refusal
then_due nodes few given k = elim nodes [ Err e ↦ Err e | Ok _ ↦ cond few (cond given (Ok k) (refuse 11)) (refuse 10) ]

-- they end in 8 or 9 where one of the two tests for rounds fails
wants : (s r few given : Bool) (a b k : ℕ) → WantsRounds (then_due (rounds_due s r a b) few given k) ↔ ((s ≡ false) ⊎ (r ≡ false))
wants false r few given a b k = (λ _. inl refl, λ _. inl refl)
wants true false few given a b k = (λ _. inr refl, λ _. inr refl)
wants true true false given a b k = (λ h. elim h [ inl e ↦ absurd (omega (arith, e)) | inr e ↦ absurd (omega (arith, e)) ], λ h. elim h [ inl e ↦ absurd cc | inr e ↦ absurd cc ])
wants true true true false a b k = (λ h. elim h [ inl e ↦ absurd (omega (arith, e)) | inr e ↦ absurd (omega (arith, e)) ], λ h. elim h [ inl e ↦ absurd cc | inr e ↦ absurd cc ])
wants true true true true a b k = (λ h. absurd h, λ h. elim h [ inl e ↦ absurd cc | inr e ↦ absurd cc ])

module _ (kind : ℕ → ℕ → Meaning) (b : Model) (t : Transfer) where
  abbrev ts : List Transfer
  ts = transfers b.live

  abbrev sending : Bool
  sending = ltb (sends t.sender ts) b.rounds

  abbrev receiving : Bool
  receiving = ltb (receives t.receiver ts) b.rounds

  -- what is due once both are nodes
  abbrev rest : Result ℕ Refusal
  rest = then_due (rounds_due sending receiving t.sender t.receiver) (ltb (length b.live) 1024) (ltb b.given 65535) (b.given + 1)

  due : is_node b.m b.n t.sender ≡ true → is_node b.m b.n t.receiver ≡ true → rest ≡ booking_due b t
  due s r =
      let nodes = rounds_due sending receiving t.sender t.receiver in
      ap (λ (d : Result (Unit {0}) Refusal). then_due d (ltb (length b.live) 1024) (ltb b.given 65535) (b.given + 1))
      (sym (
      cond-true (is_node b.m b.n t.sender) (cond (is_node b.m b.n t.receiver) nodes (refuse_node 7 t.receiver)) (refuse_node 6 t.sender) s
      ∙ cond-true (is_node b.m b.n t.receiver) nodes (refuse_node 7 t.receiver) r
      ))

  full : ((sending ≡ false) ⊎ (receiving ≡ false)) ↔ ((b.rounds ≤ sends t.sender ts) ⊎ (b.rounds ≤ receives t.receiver ts))
  full = (
    λ h. elim h [ inl e ↦ inl (ltb-false (sends t.sender ts) b.rounds e) | inr e ↦ inr (ltb-false (receives t.receiver ts) b.rounds e) ],
    λ h. elim h [ inl l ↦ inl (le-ltb (sends t.sender ts) b.rounds l) | inr l ↦ inr (le-ltb (receives t.receiver ts) b.rounds l) ],
  )

  -- a booking of two nodes wants rounds exactly where no timetable holds it beside the live transfers
  pub full_exactly : Meeting kind → lines_fit b.m ≡ true → nodes_fit b.n ≡ true → BetweenNodes b.m b.n ts → LoadsWithin b.rounds ts → FullExactly kind b t (booking_due b t)
  full_exactly law lines nodes between within s r =
      let tests = wants sending receiving (ltb (length b.live) 1024) (ltb b.given 65535) t.sender t.receiver (b.given + 1) in
      let more = between_push ts t b.m b.n (ltb-true t.sender (b.m * b.n) s) (ltb-true t.receiver (b.m * b.n) r) between in
      let none = no_timetable kind law b.m b.n b.rounds ts t lines nodes more within in
      subst (λ (a : Result ℕ Refusal). WantsRounds a ↔ (Timetabled (kind b.m b.n) b.n b.rounds (ts ++ (t ∷ [])) → ⊥)) (due s r)
      (λ w. none.0 (full.0 (tests.0 w)), λ h. tests.1 (full.1 (none.1 h)))

-- a header of what is in order is not refused
pub not_refused : (k : Meaning) (m n s r j : ℕ) (x : Result (ℕ × ℕ × ℕ) RouteRefusal) (e : RouteRefusal) → Placed m n s r j → told x ≡ headed k m n s r j → x ≡ Err e → ⊥
not_refused k m n s r j x e p h is =
    let answered : headed k m n s r j ≡ Ok (k.header s r j) = ap (λ (t : Result (Unit {0}) Refusal). elim t as (λ _. Result (ℕ × ℕ × ℕ) Refusal) [ Err f ↦ Err f | Ok _ ↦ Ok (k.header s r j) ]) (told_of p) in
    let both : Err (refusal e) ≡ Ok (k.header s r j) = sym (ap told is) ∙ h ∙ answered in
    let z : ◌≡◌ {A = ℕ} 0 1 = cc in omega (arith, z)

-- a live transfer with its spine is in order
pub placed_at : (kind : Meaning) (b : Model) (ss : List Seat) → ClashFree kind b.n b.rounds (transfers b.live) ss → lines_fit b.m ≡ true → nodes_fit b.n ≡ true → BetweenNodes b.m b.n (transfers b.live) →
    (i : ℕ) (d : Seat) → i < length b.live → Placed b.m b.n (booking_at b.live i).transfer.sender (booking_at b.live i).transfer.receiver (get_or ss i d).spine
placed_at kind b ss free lines nodes between i d low =
    let l : i < length (transfers b.live) = rw (length_transfers b.live) low in
    let is = transfer_place b.live i low in
    record { lines = lines; nodes = nodes; sender = rw (← is) (between i l).0; receiver = rw (← is) (between i l).1; spine = rw (get_or_default ss i d (record { round = 0; spine = 0 }) (rw free.each l)) (free.spines i l) }

-- a served number of rounds stays one over a fit
abbrev tests : Bool → Bool → Bool → Bool → Bool → Result (Unit {0}) Refusal
tests l p r s e = cond l (cond p (cond r (cond s (cond e (Ok tt) (refuse 5)) (refuse 4)) (refuse 3)) (refuse 2)) (refuse 1)

module _ (f : ℕ → Bool) (b : Model) (m n R : ℕ) (now : f b.rounds ≡ true) where
  fitting : (l p r s e : Bool) → f R ≡ s → f (left_by (tests l p r s e) b (record { m = m; n = n; rounds = R; given = b.given; live = b.live })).rounds ≡ true
  fitting false p r s e h = now
  fitting true false r s e h = now
  fitting true true false s e h = now
  fitting true true true false e h = now
  fitting true true true true false h = now
  fitting true true true true true h = h

  pub fit_served : f (fitted b (f R) m n R).rounds ≡ true
  fit_served = fitting (lines_fit m) (nodes_fit n) (leb 1 R && leb R 64) (f R) (eqb (length b.live) 0) refl
