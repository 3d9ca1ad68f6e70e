-- One transfer more is noted.
use Rattle.std.proofs.Common.{◌≡◌, ℕ, zero, suc, ◌+◌, ◌<◌, ◌≤◌, ◌≢◌, Bool, true, false, cond, eqb, ◌&&◌, List, [], ◌∷◌, ◌++◌, length, get_or, set, take, replicate, find, is_some, Some, None, Option, inl, inr, refl, sym, ap, ◌∙◌, arith}
use Rattle.std.specs.List.{range_with_len}
use Rattle.std.specs.Option.{option_or}
use Rattle.std.proofs.lemmas.Bool.{cases_eq, eq-eqb, ne_eqb, eqb-true, and_parts}
use Rattle.std.proofs.lemmas.List.{get_or-set_same, get_or-set_other, get_or-replicate, length-set, length-replicate, length-take-le, map-id}
use Rattle.std.proofs.lemmas.List.Folds.{find-append, sum_by-replicate}
use Rattle.std.proofs.lemmas.List.FromFn.{map-range_with_len_more}
use Rattle.std.proofs.lemmas.List.Sums.{sum_by-set, count_by-le-length, count_by_more_yes, count_by_more_no}
use Rattle.ports.specs.declared.transfer.Transfer.{Transfer}
use Rattle.timetables.specs.declared.seat.Seat.{Seat}
use Rattle.timetables.specs.Loads.{transfer_at}
use Rattle.timetables.specs.Timetables.{seat_at}
use Rattle.bookings.specs.declared.booking.Booking.{Booking}
use Rattle.bookings.specs.Model.{transfers, booking_at}
use Rattle.bookings.proofs.Facts.{length_transfers, transfer_place}
use Rattle.sheets.specs.Sheets.{is_sent_by, sent_by}
use Rattle.sheets.specs.Steps.{Noted, SendersBelow, SentApart}

-- ---- the first number below i that passes

pub range_more : (i : ℕ) → range_with_len 0 (i + 1) ≡ range_with_len 0 i ++ (i ∷ [])
range_more i =
    sym (map-id (range_with_len 0 (i + 1))) ∙ map-range_with_len_more (λ j. j) 0 i i (omega arith) ∙ ap (λ (js : List ℕ). js ++ (i ∷ [])) (map-id (range_with_len 0 i))

or_none : (o : Option ℕ) → option_or o None ≡ o
or_none None = refl
or_none (Some i) = refl

module _ (p : ℕ → Bool) where
  find_more : (i : ℕ) → find p (range_with_len 0 (i + 1)) ≡ option_or (find p (range_with_len 0 i)) (cond (p i) (Some i) None)
  find_more i = ap (find p) (range_more i) ∙ find-append p (range_with_len 0 i) (i ∷ [])

  find_skip : (i : ℕ) → p i ≡ false → find p (range_with_len 0 (i + 1)) ≡ find p (range_with_len 0 i)
  find_skip i e = find_more i ∙ ap (λ (b : Bool). option_or (find p (range_with_len 0 i)) (cond b (Some i) None)) e ∙ or_none (find p (range_with_len 0 i))

  find_first : (i : ℕ) → p i ≡ true → find p (range_with_len 0 i) ≡ None → find p (range_with_len 0 (i + 1)) ≡ Some i
  find_first i e none = find_more i ∙ ap (λ (o : Option ℕ). option_or o (cond (p i) (Some i) None)) none ∙ ap (λ (b : Bool). cond b (Some i) None) e

  at_next : (i : ℕ) → find p (range_with_len 0 (suc i)) ≡ find p (range_with_len 0 (i + 1))
  at_next i = ap (λ (n : ℕ). find p (range_with_len 0 n)) {x = suc i} {y = i + 1} (omega arith)

  find_none : (i : ℕ) → ((j : ℕ) → j < i → p j ≡ false) → find p (range_with_len 0 i) ≡ None
  find_none zero h = refl
  find_none (suc i) h = at_next i ∙ find_skip i (h i (omega arith)) ∙ find_none i (λ j l. h j (omega arith))

  found_next : (n i : ℕ) (o : Option ℕ) → (find p (range_with_len 0 n) ≡ Some i → (i < n) × (p i ≡ true)) → find p (range_with_len 0 n) ≡ o
      → option_or o (cond (p n) (Some n) None) ≡ Some i → (i < n + 1) × (p i ≡ true)
  found_next n i (Some j) before is e = let b = before (is ∙ e) in (omega (arith, b.0), b.1)
  found_next n i None before is e = by (p n) refl e
    where
      by : (b : Bool) → p n ≡ b → cond b (Some n) None ≡ Some i → (i < n + 1) × (p i ≡ true)
      by true h f = let same : n ≡ i = cc in (omega (arith, same), ap p (sym same) ∙ h)
      by false h f = absurd cc

  -- where i passes and no lower number does, i is found
  pub find_only : (n i : ℕ) → i < n → p i ≡ true → ((j : ℕ) → j < i → p j ≡ false) → find p (range_with_len 0 n) ≡ Some i
  find_only zero i l e h = absurd (omega (arith, l))
  find_only (suc n) i l e h = elim (cases_eq i n) [
    | inl z ↦ ap (λ (m : ℕ). find p (range_with_len 0 (suc m))) (sym z) ∙ at_next i ∙ find_first i e (find_none i h)
    | inr ne ↦ at_next n ∙ find_more n ∙ ap (λ (o : Option ℕ). option_or o (cond (p n) (Some n) None)) (find_only n i (omega (arith, l, ne)) e h)
  ]

  pub find_found : (n i : ℕ) → find p (range_with_len 0 n) ≡ Some i → (i < n) × (p i ≡ true)
  find_found zero i e = absurd cc
  find_found (suc n) i e =
      let b = found_next n i (find p (range_with_len 0 n)) (find_found n i) refl (sym (find_more n) ∙ sym (at_next n) ∙ e) in (omega (arith, b.0), b.1)

and_false : (b : Bool) → (b && false) ≡ false
and_false true = refl
and_false false = refl

-- ---- one transfer more is noted, or passed by

module _ (k : ℕ) (ts : List Transfer) (ss : List Seat) where
  abbrev d : Seat
  d = record { round = 0; spine = 0 }

  -- whether a transfer is sent by a node in the round, by its two tests
  of_other_round : (v j : ℕ) → (seat_at ss j).round ≢ k → is_sent_by k ts ss v j ≡ false
  of_other_round v j ne = ap (λ (b : Bool). b && eqb (transfer_at ts j).sender v) (ne_eqb (seat_at ss j).round k ne)

  of_other_node : (v j : ℕ) → (transfer_at ts j).sender ≢ v → is_sent_by k ts ss v j ≡ false
  of_other_node v j ne = ap (λ (b : Bool). eqb (seat_at ss j).round k && b) (ne_eqb (transfer_at ts j).sender v ne) ∙ and_false (eqb (seat_at ss j).round k)

  of_both : (v j : ℕ) → (seat_at ss j).round ≡ k → (transfer_at ts j).sender ≡ v → is_sent_by k ts ss v j ≡ true
  of_both v j e f = rw (eq-eqb (seat_at ss j).round k e, eq-eqb (transfer_at ts j).sender v f) refl

  -- the node of a transfer of the round sends none before it
  module _ (apart : SentApart k ts ss) (i : ℕ) (low : i < length ts) (same : (seat_at ss i).round ≡ k) (v : ℕ) (e : v ≡ (transfer_at ts i).sender) where
    none_before : (j : ℕ) → j < i → (b : Bool) → is_sent_by k ts ss v j ≡ b → is_sent_by k ts ss v j ≡ false
    unfolding SentApart
    none_before j l false f = f
    none_before j l true f =
        let parts = and_parts (eqb (seat_at ss j).round k) (eqb (transfer_at ts j).sender v) f in
        absurd (apart j i (omega (arith, l, low)) low (omega (arith, l)) (eqb-true (seat_at ss j).round k parts.0) same (eqb-true (transfer_at ts j).sender v parts.1 ∙ e))

    none_yet : find (is_sent_by k ts ss v) (range_with_len 0 i) ≡ None
    none_yet = find_none (is_sent_by k ts ss v) i (λ j l. none_before j l (is_sent_by k ts ss v j) refl)

    pub sends_it : sent_by k ts ss v ≡ Some i
    sends_it = find_only (is_sent_by k ts ss v) (length ts) i low (of_both v i same (sym e)) (λ j l. none_before j l (is_sent_by k ts ss v j) refl)

  module _ (each : length ss ≡ length ts) (i : ℕ) (ps : List (Option ℕ)) (count : ℕ) (h : Noted k ts ss i ps count) (low : i < length ts) where
    pass_by : (seat_at ss i).round ≢ k → Noted k ts ss (i + 1) ps count
    unfolding Noted
    pass_by ne = (
      λ v l. h.0 v l ∙ sym (find_skip (is_sent_by k ts ss v) i (of_other_round v i ne)),
      h.1,
      h.2 ∙ sym (count_by_more_no (λ s. eqb s.round k) ss i d (omega (arith, low, each)) (ne_eqb (seat_at ss i).round k ne)),
    )

    note : SentApart k ts ss → (v : ℕ) → v ≡ (transfer_at ts i).sender → v < length ps → (seat_at ss i).round ≡ k → Noted k ts ss (i + 1) (set ps v (Some i)) (count + 1)
    unfolding Noted
    note apart v e l same = (
      λ u m. elim (cases_eq u v) [
        | inl z ↦
            ap (λ (w : ℕ). get_or (set ps v (Some i)) w None) z ∙ get_or-set_same ps v (Some i) None l
            ∙ sym (find_first (is_sent_by k ts ss v) i (of_both v i same (sym e)) (none_yet apart i low same v e)) ∙ ap (λ (w : ℕ). find (is_sent_by k ts ss w) (range_with_len 0 (i + 1))) (sym z)
        | inr ne ↦ get_or-set_other ps v u (Some i) None ne ∙ h.0 u (omega (arith, length-set ps v (Some i), m)) ∙ sym (find_skip (is_sent_by k ts ss u) i (of_other_node u i (λ q. ne (sym q ∙ sym e))))
      ],
      omega (
        arith,
        h.1,
        sum_by-set (λ (o : Option ℕ). cond (is_some o) 1 0) ps v (Some i) None l,
        ap {B = ℕ} (λ (o : Option ℕ). cond (is_some o) 1 0) (h.0 v l ∙ none_yet apart i low same v e),
      ),
      omega (arith, h.2, count_by_more_yes (λ s. eqb s.round k) ss i d (omega (arith, low, each)) (eq-eqb (seat_at ss i).round k same)),
    )

-- ---- the same of bookings

none_noted : (k : ℕ) (ts : List Transfer) (ss : List Seat) (n : ℕ) → Noted k ts ss 0 (replicate n None) 0
unfolding Noted
none_noted k ts ss n = (
  λ v l. get_or-replicate n v None None (omega (arith, l, length-replicate {A = Option ℕ} n None)),
  omega (arith, sum_by-replicate (λ (o : Option ℕ). cond (is_some o) 1 0) n None),
  refl,
)

pub noted_none : (k : ℕ) (ts : List Transfer) (ss : List Seat) (n : ℕ) (ps : List (Option ℕ)) → ps ≡ replicate n None → Noted k ts ss 0 ps 0
noted_none k ts ss n ps e = rw e (none_noted k ts ss n)

pub sender_low : (live : List Booking) (i n v : ℕ) → SendersBelow (transfers live) n → i < length live → v ≡ (booking_at live i).transfer.sender → v < n
unfolding SendersBelow
sender_low live i n v h l e = omega (arith, e, ap (λ (t : Transfer). t.sender) (transfer_place live i l), h i (omega (arith, l, length_transfers live)))

module _ (k : ℕ) (live : List Booking) (ss : List Seat) (i : ℕ) where
  module _ (ps : List (Option ℕ)) (count : ℕ) (h : Noted k (transfers live) ss i ps count) (l : i < length live) (each : length ss ≡ length live) where
    pub noted_past : (seat_at ss i).round ≢ k → Noted k (transfers live) ss (i + 1) ps count
    noted_past = pass_by k (transfers live) ss (each ∙ sym (length_transfers live)) i ps count h (omega (arith, l, length_transfers live))

    pub noted_more : SentApart k (transfers live) ss → (v : ℕ) → v ≡ (booking_at live i).transfer.sender → v < length ps → (seat_at ss i).round ≡ k → Noted k (transfers live) ss (i + 1) (set ps v (Some i)) (count + 1)
    noted_more apart v e low same =
        note k (transfers live) ss (each ∙ sym (length_transfers live)) i ps count h (omega (arith, l, length_transfers live))
        apart v (e ∙ sym (ap (λ (t : Transfer). t.sender) (transfer_place live i l))) low same

pub noted_few : (k : ℕ) (ts : List Transfer) (ss : List Seat) (i : ℕ) (ps : List (Option ℕ)) (count : ℕ) → Noted k ts ss i ps count → i < length ss → count ≤ i
unfolding Noted
noted_few k ts ss i ps count h l = omega (arith, h.2, count_by-le-length (λ s. eqb s.round k) (take i ss), length-take-le i ss (omega (arith, l)))

pub ruleset noting = (noted_none, sender_low, noted_few, noted_past, noted_more)
