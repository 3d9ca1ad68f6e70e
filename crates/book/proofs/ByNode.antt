-- The first stage: live transfers as lines by node, and the rounds that their colours are.
use Rattle.std.proofs.Common.{◌≡◌, ℕ, ◌<◌, ◌≤◌, eqb, cond, List, [], ◌∷◌, map, length, get_or, sym, refl, ap, ◌∙◌, subst, arith}
use Rattle.std.proofs.lemmas.List.{get_or-map, length-map}
use Rattle.std.proofs.lemmas.List.Sums.{sum_by-cons}
use Rattle.lines.specs.declared.line.Line.{Line}
use Rattle.lines.specs.declared.line.Side.{Side}
use Rattle.lines.specs.declared.line.Side.TheVariants.{Left, Right}
use Rattle.lines.specs.Arrangers.{Arranged}
use Rattle.lines.specs.Lines.{ends, end_at, degree, DegreesWithin, Inside}
use Rattle.lines.proofs.Places.{end_line, colour_line, length_ends, same_length}
use Rattle.ports.specs.declared.transfer.Transfer.{Transfer}
use Rattle.timetables.specs.declared.seat.Seat.{Seat}
use Rattle.timetables.specs.Loads.{transfer_at, sends, receives, LoadsWithin}
use Rattle.timetables.specs.Timetables.{seat_at}
use Rattle.timetables.specs.Stages.{by_node, InRounds}
use Rattle.bookings.specs.declared.booking.Booking.{Booking}
use Rattle.bookings.specs.Model.{transfers}
use Rattle.bookings.proofs.Facts.{length_transfers}
use Rattle.book.specs.Parts.{LowNodes, Arrangeable, round_seat}

sends_degree : (v : ℕ) (ts : List Transfer) → degree Left v (ends (map by_node ts)) ≡ sends v ts
sends_degree v [] = refl
sends_degree v (t ∷ ts) =
    omega (arith, sum_by-cons (λ (p : ℕ × ℕ). cond (eqb p.0 v) 1 0) (t.sender, t.receiver) (ends (map by_node ts)), sum_by-cons (λ (u : Transfer). cond (eqb u.sender v) 1 0) t ts, sends_degree v ts)

receives_degree : (v : ℕ) (ts : List Transfer) → degree Right v (ends (map by_node ts)) ≡ receives v ts
receives_degree v [] = refl
receives_degree v (t ∷ ts) =
    omega (arith, sum_by-cons (λ (p : ℕ × ℕ). cond (eqb p.1 v) 1 0) (t.sender, t.receiver) (ends (map by_node ts)), sum_by-cons (λ (u : Transfer). cond (eqb u.receiver v) 1 0) t ts, receives_degree v ts)

module _ (ts : List Transfer) where
  abbrev nodes : List Line
  nodes = map by_node ts

  abbrev none : Transfer
  none = record { sender = 0; receiver = 0 }

  long : length (ends nodes) ≡ length ts
  long = length_ends nodes ∙ length-map ts by_node

  -- the ends of the line of the transfer at a place
  line_at : (k : ℕ) → k < length ts → get_or nodes k (by_node none) ≡ by_node (transfer_at ts k)
  line_at k l = get_or-map by_node ts k none (by_node none) l

  left_at : (k : ℕ) → k < length ts → end_at (ends nodes) Left k ≡ (transfer_at ts k).sender
  left_at k l = end_line nodes Left k (by_node none) (rw (length-map ts by_node) l) ∙ ap (λ (x : Line). x.left) (line_at k l)

  right_at : (k : ℕ) → k < length ts → end_at (ends nodes) Right k ≡ (transfer_at ts k).receiver
  right_at k l = end_line nodes Right k (by_node none) (rw (length-map ts by_node) l) ∙ ap (λ (x : Line). x.right) (line_at k l)

  -- what no arranger that serves R colours refuses
  inside_nodes : LowNodes ts → Inside (ends nodes)
  inside_nodes low Left k l = rw (left_at k (rw (← long) l)) (low k (rw (← long) l)).0
  inside_nodes low Right k l = rw (right_at k (rw (← long) l)) (low k (rw (← long) l)).1

  within_nodes : (R : ℕ) → LoadsWithin R ts → DegreesWithin R (ends nodes)
  within_nodes R few Left v = rw (sends_degree v ts) (few v).0
  within_nodes R few Right v = rw (receives_degree v ts) (few v).1

  fit_nodes : (R : ℕ) → length ts ≤ 1024 → LowNodes ts → LoadsWithin R ts → Arrangeable R nodes
  unfolding Arrangeable
  fit_nodes R few low loads = (rw (length-map ts by_node) few, inside_nodes low, within_nodes R loads)

  -- the colours are rounds
  rounds_from : (R : ℕ) (after : List Line) → Arranged R nodes after → InRounds R ts (map round_seat after)
  rounds_from R after h = record {
    each = length-map after round_seat ∙ count;
    below = λ i l. rw (round_at i l) (below i l);
    differ = λ i j li lj ne same.
        let one = sym (round_at i li) ∙ same ∙ round_at j lj in
        (λ e. differ Left i j li lj ne (left_at i li ∙ e ∙ sym (left_at j lj)) one, λ e. differ Right i j li lj ne (right_at i li ∙ e ∙ sym (right_at j lj)) one);
  }
    where
      count : length after ≡ length ts
      count = same_length nodes after h.same ∙ length-map ts by_node

      colour : ℕ → ℕ
      colour i = get_or (map (λ (x : Line). x.colour) after) i 0

      round_at : (i : ℕ) → i < length ts → (seat_at (map round_seat after) i).round ≡ colour i
      round_at i l =
          let none_line : Line = record { left = 0; right = 0; colour = 0 } in
          ap (λ (x : Seat). x.round) (get_or-map round_seat after i none_line (record { round = 0; spine = 0 }) (rw count l)) ∙ sym (colour_line after i none_line (rw count l))

      below : (i : ℕ) → i < length ts → colour i < R
      below i l = h.proper.below i (rw (length_ends after ∙ count) l)

      differ : (s : Side) (i j : ℕ) → i < length ts → j < length ts → (i ≡ j → ⊥) → end_at (ends nodes) s i ≡ end_at (ends nodes) s j → colour i ≡ colour j → ⊥
      differ s i j li lj ne e = h.proper.differ s i j (rw (length_ends after ∙ count) li) (rw (length_ends after ∙ count) lj) ne (rw h.same e)

-- the same of what the calls in the first stage hand on
pub fit_gathered : (R : ℕ) (live : List Booking) (ls : List Line) → ls ≡ map by_node (transfers live) → length live ≤ 1024 → LowNodes (transfers live) → LoadsWithin R (transfers live) → Arrangeable R ls
fit_gathered R live ls e few low loads = subst (Arrangeable R) (sym e) (fit_nodes (transfers live) R (rw (length_transfers live) few) low loads)

pub rounds_taken : (R : ℕ) (ts : List Transfer) (before after : List Line) (ss : List Seat) → before ≡ map by_node ts → Arranged R before after → ss ≡ map round_seat after → InRounds R ts ss
rounds_taken R ts before after ss b h e =
    subst (λ (qs : List Seat). InRounds R ts qs) (sym e) (rounds_from ts R after (subst (λ (ls : List Line). Arranged R ls after) b h))

pub long_gathered : (live : List Booking) (before after : List Line) (R : ℕ) → before ≡ map by_node (transfers live) → Arranged R before after → length after ≡ length live
long_gathered live before after R e h = same_length before after h.same ∙ ap length e ∙ length-map (transfers live) by_node ∙ length_transfers live

pub ruleset by_nodes = (fit_gathered, rounds_taken, long_gathered)
