-- The transfers of one more round have their spines.
use Rattle.std.proofs.Common.{◌≡◌, ℕ, ◌+◌, ◌/◌, ◌<◌, ◌≤◌, ◌≢◌, true, ltb, List, length, get_or, sym, ap, ◌∙◌, inl, inr, arith}
use Rattle.std.proofs.lemmas.Bool.{cases_lt, eq-eqb, eqb-true, le-ltb, lt-ltb}
use Rattle.std.proofs.lemmas.List.{length-map}
use Rattle.lines.specs.declared.line.Line.{Line}
use Rattle.lines.specs.declared.line.Side.{Side}
use Rattle.lines.specs.declared.line.Side.TheVariants.{Left, Right}
use Rattle.lines.specs.Lines.{ends, colours, end_at}
use Rattle.lines.specs.Arrangers.{Arranged, grown}
use Rattle.lines.proofs.Places.{length_ends}
use Rattle.ports.specs.Checks.{nodes_fit}
use Rattle.ports.specs.declared.transfer.Transfer.{Transfer}
use Rattle.timetables.specs.declared.seat.Seat.{Seat}
use Rattle.timetables.specs.Loads.{transfer_at}
use Rattle.timetables.specs.Timetables.{seat_at}
use Rattle.timetables.specs.Stages.{InRounds, OnSpines}
use Rattle.timetables.proofs.Exists.{some_nodes}
use Rattle.bookings.specs.declared.booking.Booking.{Booking}
use Rattle.bookings.specs.Model.{transfers}
use Rattle.book.specs.Parts.{LowNodes, Arrangeable, Places, SameRounds, Spread, places_of, lines_at}
use Rattle.book.proofs.Lists.{Lists, lists, cnt_split, cnt_none, cnt_all, cnt_same}
use Rattle.lines.proofs.Count.{cnt}
use Rattle.book.proofs.Linking.{in_round, lines_long, linked_kept}
use Rattle.book.proofs.Crowding.{node, long, end_of_line, fit}

pub rounds_kept : (R : ℕ) (ts : List Transfer) (old new : List Seat) → SameRounds old new → InRounds R ts old → InRounds R ts new
rounds_kept R ts old new s h = record {
  each = s.each ∙ h.each;
  below = λ i l. rw (s.same i) (h.below i l);
  differ = λ i j li lj ne e. h.differ i j li lj ne (sym (s.same i) ∙ e ∙ s.same j);
}

module _ (k : ℕ) (ss : List Seat) where
  are : Lists (in_round ss k) (length ss) (places_of k ss)
  unfolding places_of
  are = lists (in_round ss k) (length ss)

  pub places_are : Places (length ss) (places_of k ss)
  places_are = record { below = are.below; rise = are.rise }

  module _ (n : ℕ) (ts : List Transfer) (after : List Line) (new : List Seat) (each : length ss ≡ length ts)
      (a : Arranged n (lines_at n ts (places_of k ss)) after) (s : Spread (places_of k ss) after ss new) where
    many : length (ends after) ≡ length (places_of k ss)
    many = ap length a.same ∙ long n ts (places_of k ss)

    -- of the round k, the place and the spine
    at : (i : ℕ) → i < length ts → (seat_at ss i).round ≡ k → (b : ℕ) × (b < length (places_of k ss)) × (get_or (places_of k ss) b 0 ≡ i) × ((seat_at new i).spine ≡ get_or (colours after) b 0)
    at i l e =
        let f = are.finds i (omega (arith, each)) (eq-eqb (seat_at ss i).round k e) in
        (f.0, f.1, f.2, rw f.2 at (s.given f.0 f.1))

    -- other rounds keep their spines
    kept : (i : ℕ) → (seat_at ss i).round ≢ k → (seat_at new i).spine ≡ (seat_at ss i).spine
    kept i ne = s.others i (λ b l e. ne (eqb-true (seat_at ss i).round k (rw e at (are.passes b l))))

    -- two of the round on one spine have different lines on a side
    differ : (i j : ℕ) → i < length ts → j < length ts → i ≢ j → (seat_at ss i).round ≡ k → (seat_at ss j).round ≡ k → (seat_at new i).spine ≡ (seat_at new j).spine → (side : Side) → node side (transfer_at ts i) / n ≢ node side (transfer_at ts j) / n
    differ i j li lj ne ei ej same side e =
        let x = at i li ei in
        let y = at j lj ej in
        let b : ℕ = x.0 in
        let d : ℕ = y.0 in
        let off : b ≢ d = λ z. ne (sym x.2 ∙ ap (λ (u : ℕ). get_or (places_of k ss) u 0) z ∙ y.2) in
        let end : (u v : ℕ) → u < length (places_of k ss) → get_or (places_of k ss) u 0 ≡ v → end_at (ends after) side u ≡ node side (transfer_at ts v) / n
        = λ u v l z. ap (λ (es : List (ℕ × ℕ)). end_at es side u) a.same ∙ end_of_line n ts (places_of k ss) side u l ∙ ap (λ (w : ℕ). node side (transfer_at ts w) / n) z in
        a.proper.differ side b d (omega (arith, many, x.1)) (omega (arith, many, y.1)) off (end b i x.1 x.2 ∙ e ∙ sym (end d j y.1 y.2)) (sym x.3 ∙ same ∙ y.3)

    pub seated : OnSpines n k ts ss → OnSpines n (k + 1) ts new
    seated h = record {
      below = λ i l r. elim (cases_lt (seat_at ss i).round k) [
        | inl low ↦ (let ne : (seat_at ss i).round ≢ k = omega arith in rw (kept i ne) (h.below i l low))
        | inr up ↦ (let e : (seat_at ss i).round ≡ k = omega (arith, s.rounds.same i) in let x = at i l e in rw x.3 (a.proper.below x.0 (omega (arith, many, x.1))))
      ];
      differ = λ i j li lj ne r one same.
          let one' : (seat_at ss i).round ≡ (seat_at ss j).round = sym (s.rounds.same i) ∙ one ∙ s.rounds.same j in
          elim (cases_lt (seat_at ss i).round k) [
            | inl low ↦
                (let oi : (seat_at ss i).round ≢ k = omega arith in
                let oj : (seat_at ss j).round ≢ k = omega arith in
                h.differ i j li lj ne low one' (sym (kept i oi) ∙ same ∙ kept j oj))
            | inr up ↦
                (let ei : (seat_at ss i).round ≡ k = omega (arith, s.rounds.same i) in
                let d = differ i j li lj ne ei (sym one' ∙ ei) same in
                (d Left, d Right))
          ];
    }

-- the lines of a round may be handed to an arranger
pub round_fits : (n k : ℕ) (live : List Booking) (ss : List Seat) → InRounds 64 (transfers live) ss → length live ≤ 1024 → LowNodes (transfers live) → nodes_fit n ≡ true → Arrangeable n (lines_at n (transfers live) (places_of k ss))
round_fits n k live ss rounds few low nodes = fit n k (transfers live) ss rounds (some_nodes n nodes) (omega (arith, length-map live (λ x. x.transfer))) low

pub round_places : (k : ℕ) (ss : List Seat) (ps : List ℕ) → ps ≡ places_of k ss → Places (length ss) ps
round_places k ss ps e = rw e (places_are k ss)

pub round_long : (n : ℕ) (ts : List Transfer) (ps : List ℕ) (after : List Line) → Arranged n (lines_at n ts ps) after → length after ≡ length ps
round_long n ts ps after a = sym (length_ends after) ∙ ap length a.same ∙ long n ts ps

pub ruleset seating = (round_fits, round_places, round_long, lines_long, linked_kept, seated)

-- how many seats have a round below k
abbrev seats_below : ℕ → List Seat → ℕ
seats_below k ss = cnt (λ i. ltb (seat_at ss i).round k) (length ss)

-- a meter m has become m' by the seats of the rounds below k
unfoldable pub Metered : ℕ → ℕ → List Seat → ℕ → Type 0
Metered m k ss m' = m' ≡ grown m (seats_below k ss)

pub metered_none : (m : ℕ) (ss : List Seat) → m ≤ 4294967295 → Metered m 0 ss m
unfolding Metered
metered_none m ss low = omega (arith, cnt_none (λ i. ltb (seat_at ss i).round 0) (length ss) (λ i l. le-ltb (seat_at ss i).round 0 (omega arith)))

pub metered_more : (m m' m'' k : ℕ) (old new : List Seat) → Metered m k old m' → SameRounds old new → m'' ≡ grown m' (length (places_of k old)) → Metered m (k + 1) new m''
unfolding Metered
metered_more m m' m'' k old new h s e =
    let same = cnt_same (λ i. ltb (seat_at new i).round (k + 1)) (λ i. ltb (seat_at old i).round (k + 1)) (length new) (λ i. ap (λ (r : ℕ). ltb r (k + 1)) (s.same i)) in
    let long = ap (cnt (λ i. ltb (seat_at old i).round (k + 1))) s.each in
    omega (arith, same, long, cnt_split (λ i. (seat_at old i).round) k (length old), (are k old).count)

pub metered_all : (m m' k R : ℕ) (live : List Booking) (ss : List Seat) → Metered m k ss m' → InRounds R (transfers live) ss → R ≤ k → m' ≡ grown m (length live)
unfolding Metered
metered_all m m' k R live ss e h l =
    let all = cnt_all (λ i. ltb (seat_at ss i).round k) (length ss) (λ i low. lt-ltb (seat_at ss i).round k (omega (arith, h.below i (omega (arith, h.each))))) in
    omega (arith, all, h.each, length-map live (λ x. x.transfer))

pub spines_none : (n : ℕ) (ts : List Transfer) (ss : List Seat) → OnSpines n 0 ts ss
spines_none n ts ss = record { below = λ i l r. absurd (omega arith); differ = λ i j li lj ne r. absurd (omega arith) }

pub rounds_within : (R : ℕ) (ts : List Transfer) (ss : List Seat) → InRounds R ts ss → R ≤ 64 → InRounds 64 ts ss
rounds_within R ts ss h l = record { each = h.each; below = λ i k. omega (arith, h.below i k); differ = h.differ }

pub ruleset passing = (metered_none, metered_more, metered_all, spines_none, rounds_within, rounds_kept)
