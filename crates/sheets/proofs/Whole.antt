-- The places of all the nodes, and the sheet that their rows make.
use Rattle.std.proofs.Common.{◌≡◌, ℕ, suc, ◌+◌, ◌*◌, ◌<◌, ◌≤◌, true, cond, lt-ltb, le-leb, mul-le-mul_left, mul-le-mul_right, List, [], ◌∷◌, ◌++◌, length, get_or, drop, map, find, count_by, is_some, Some, None, Ok, Err, Option, Result, refl, sym, ap, ◌∙◌, arith}
use Rattle.std.specs.List.{flat_map, range_with_len}
use Rattle.std.proofs.lemmas.List.{take_all, length-append, drop-drop, append_assoc}
use Rattle.crossbar.specs.Refusals.{Refusal}
use Rattle.std.proofs.lemmas.List.Folds.{flat_map-map}
use Rattle.std.proofs.lemmas.List.FromFn.{fill_by_all}
use Rattle.std.proofs.lemmas.List.Sums.{sum_by-cons, count_by-le-length}
use Rattle.ports.specs.Checks.{lines_fit, nodes_fit}
use Rattle.ports.proofs.Places.{at_most_32, at_most_16}
use Rattle.cabinet.specs.Wiring.{Meaning}
use Rattle.cabinet.specs.Laws.{Meeting}
use Rattle.timetables.specs.declared.seat.Seat.{Seat}
use Rattle.timetables.specs.Loads.{BetweenNodes, transfer_at}
use Rattle.timetables.specs.Timetables.{in_round}
use Rattle.timetables.proofs.Clashes.{in_rounds_of}
use Rattle.bookings.specs.declared.booking.Booking.{Booking}
use Rattle.bookings.specs.Model.{Model, transfers}
use Rattle.bookings.proofs.Facts.{length_transfers}
use Rattle.book.specs.Calls.{Seated}
use Rattle.sheets.specs.Sheets.{head_text, is_sent_by, sent_by, row_at, rows_text, HasRows, sheet_text, sheet_due, sheet_left}
use Rattle.sheets.specs.Steps.{Noted, SendersBelow, SentApart, PlacesBelow, RoundNoted}
use Rattle.sheets.proofs.Noting.{find_found, sends_it}
use Rattle.sheets.proofs.Rows.{two_is, three_is, row_long}

pub few_nodes : (m n : ℕ) → lines_fit m ≡ true → nodes_fit n ≡ true → m * n ≤ 512
few_nodes m n lines nodes =
    let a : m ≤ 32 = at_most_32 m lines in
    let b : n ≤ 16 = at_most_16 n nodes in
    omega (arith, mul-le-mul_left m b, mul-le-mul_right 16 a)

pub senders_below : (b : Model) (n : ℕ) → BetweenNodes b.m b.n (transfers b.live) → n ≡ b.m * b.n → SendersBelow (transfers b.live) n
unfolding SendersBelow
senders_below b n between e i l = omega (arith, (between i l).0, e)

-- of one round of a clash-free timetable, senders differ
pub sent_apart : (kind : ℕ → ℕ → Meaning) (b : Model) (ss : List Seat) (k : ℕ) → Meeting kind → Seated kind b ss → lines_fit b.m ≡ true → nodes_fit b.n ≡ true → BetweenNodes b.m b.n (transfers b.live) → SentApart k (transfers b.live) ss
unfolding SentApart
sent_apart kind b ss k law seated lines nodes between i j li lj ne e f = ((in_rounds_of kind b.m b.n (transfers b.live) ss lines nodes between b.rounds law seated).differ i j li lj ne (e ∙ sym f)).0

-- and so every transfer of the round has its row
pub rows_there : (kind : ℕ → ℕ → Meaning) (b : Model) (ss : List Seat) (k : ℕ) → Meeting kind → Seated kind b ss → lines_fit b.m ≡ true → nodes_fit b.n ≡ true → BetweenNodes b.m b.n (transfers b.live) → HasRows b ss k
unfolding HasRows
rows_there kind b ss k law seated lines nodes between i l same =
    let within : i < length (transfers b.live) = omega (arith, l, length_transfers b.live) in
    ((between i within).0, sends_it k (transfers b.live) ss (sent_apart kind b ss k law seated lines nodes between) i within same (transfer_at (transfers b.live) i).sender refl)

-- where each row has 20 bytes, all of them have 20 for each place
rows_sum : (f : Option ℕ → List ℕ) (ps : List (Option ℕ)) → f None ≡ [] → ((v i : ℕ) → v < length ps → get_or ps v None ≡ Some i → length (f (Some i)) ≡ 20) → length (flat_map f ps) ≡ 20 * count_by is_some ps
rows_sum f [] none h = refl
rows_sum f (None ∷ ps) none h =
    omega (
      arith,
      length-append (f None) (flat_map f ps),
      ap length none,
      rows_sum f ps none (λ v i l e. h (suc v) i (omega arith) e),
      sum_by-cons (λ (o : Option ℕ). cond (is_some o) 1 0) None ps,
    )
rows_sum f (Some i ∷ ps) none h =
    omega (
      arith,
      length-append (f (Some i)) (flat_map f ps),
      h 0 i (omega arith) refl,
      rows_sum f ps none (λ v j l e. h (suc v) j (omega arith) e),
      sum_by-cons (λ (o : Option ℕ). cond (is_some o) 1 0) (Some i) ps,
    )

module _ (kind : ℕ → ℕ → Meaning) (b : Model) (ss : List Seat) (seated : Seated kind b ss) (lines : lines_fit b.m ≡ true) (nodes : nodes_fit b.n ≡ true) (between : BetweenNodes b.m b.n (transfers b.live)) (k : ℕ) (ps : List (Option ℕ)) (count : ℕ) (long : length ps ≡ b.m * b.n) (live : List Booking) (us : List Seat) (same : live ≡ b.live) (same_seats : us ≡ ss) (noted : Noted k (transfers live) us (length live) ps count) where
  h : Noted k (transfers b.live) ss (length b.live) ps count
  h = rw (← same, ← same_seats) noted

  at : (v : ℕ) → v < length ps → get_or ps v None ≡ sent_by k (transfers b.live) ss v
  unfolding Noted
  at v l = h.0 v l ∙ ap (λ (n : ℕ). find (is_sent_by k (transfers b.live) ss v) (range_with_len 0 n)) (sym (length_transfers b.live))

  places_are : ps ≡ map (sent_by k (transfers b.live) ss) (range_with_len 0 (b.m * b.n))
  places_are = fill_by_all (sent_by k (transfers b.live) ss) ps (b.m * b.n) None long (λ v l. at v (omega (arith, l, long)))

  low : (v i : ℕ) → v < length ps → get_or ps v None ≡ Some i → i < length b.live
  unfolding Noted
  low v i l e = omega (arith, (find_found (is_sent_by k (transfers b.live) ss v) (length b.live) i (sym (h.0 v l) ∙ e)).0)

  places_low : PlacesBelow ps (length b.live)
  unfolding PlacesBelow
  places_low = low

  all_counted : count ≡ in_round k ss
  unfolding Noted
  all_counted = h.2 ∙ ap (in_round k) (take_all (length b.live) ss (omega (arith, seated.each, length_transfers b.live)))

  few : count ≤ 512
  unfolding Noted
  few = omega (arith, h.1, count_by-le-length is_some ps, long, few_nodes b.m b.n lines nodes)

  rows_long : length (flat_map (row_at kind b ss) ps) ≡ 20 * count
  unfolding Noted
  rows_long = omega (arith, h.1, rows_sum (row_at kind b ss) ps refl (λ v i l e. row_long kind b ss seated lines nodes between i (low v i l e)))

  pub round_noted : RoundNoted kind b ss k ps count
  round_noted = record { places = places_are; low = places_low; all = all_counted; few = few; rows = rows_long }

-- ---- the sheet

head_long : (k count : ℕ) → k < 100 → count < 1000 → length (head_text k count) ≡ 8
head_long k count low few = rw (two_is k low, three_is count few) refl

module _ (kind : ℕ → ℕ → Meaning) (b : Model) (ss : List Seat) (k : ℕ) (ps : List (Option ℕ)) (count : ℕ) (h : RoundNoted kind b ss k ps count) (low : k < b.rounds) (limit : b.rounds ≤ 64) where
  rows_are : flat_map (row_at kind b ss) ps ≡ rows_text kind b ss k
  unfolding rows_text
  rows_are = ap (flat_map (row_at kind b ss)) h.places ∙ flat_map-map (row_at kind b ss) (sent_by k (transfers b.live) ss) (range_with_len 0 (b.m * b.n))

  text_is : sheet_text kind b ss k ≡ head_text k count ++ flat_map (row_at kind b ss) ps
  unfolding sheet_text
  text_is = rw (h.all, rows_are) refl

  pub text_long : length (sheet_text kind b ss k) ≡ 8 + 20 * count
  text_long = omega (arith, ap length text_is, length-append (head_text k count) (flat_map (row_at kind b ss) ps), head_long k count (omega arith) (omega (arith, h.few)), h.rows)

  due : (buffer : List ℕ) → 8 + 20 * count ≤ length buffer → sheet_due b ss k (length buffer) ≡ Ok (8 + 20 * count)
  due buffer room = rw (← h.all, lt-ltb k b.rounds low, le-leb (8 + 20 * count) (length buffer) room) refl

  left : (buffer : List ℕ) → 8 + 20 * count ≤ length buffer → sheet_left kind b ss k buffer ≡ sheet_text kind b ss k ++ drop (8 + 20 * count) buffer
  left buffer room = ap (λ (r : Result ℕ Refusal). elim r as (λ _. List ℕ) [ Err _ ↦ buffer | Ok l ↦ sheet_text kind b ss k ++ drop l buffer ]) (due buffer room)

  pub text_left : (buffer head rest rows : List ℕ) → head ≡ head_text k count → rest ≡ drop 8 buffer → rows ≡ flat_map (row_at kind b ss) ps ++ drop (length (flat_map (row_at kind b ss) ps)) rest → 8 + 20 * count ≤ length buffer → head ++ rows ≡ sheet_left kind b ss k buffer
  text_left buffer head rest rows is after written room =
      let all : List ℕ = flat_map (row_at kind b ss) ps in
      let last : drop (length all) rest ≡ drop (8 + 20 * count) buffer = ap (drop (length all)) after ∙ ap (λ (n : ℕ). drop n (drop 8 buffer)) h.rows ∙ drop-drop (20 * count) 8 buffer in
      ap (λ (r : List ℕ). r ++ rows) is
      ∙ ap (λ (r : List ℕ). head_text k count ++ r) (written ∙ ap (λ (r : List ℕ). all ++ r) last)
      ∙ sym (append_assoc (head_text k count) all (drop (8 + 20 * count) buffer))
      ∙ sym (ap (λ (t : List ℕ). t ++ drop (8 + 20 * count) buffer) text_is)
      ∙ sym (left buffer room)
