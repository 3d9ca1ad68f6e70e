-- The lines of one round are not too many, have no end too high, and none is crowded; so no arranger refuses them.
use Rattle.std.proofs.Common.{◌≡◌, ℕ, suc, ◌/◌, ◌%◌, ◌<◌, ◌≤◌, ◌≢◌, Bool, true, false, ltb, eqb, ◌||◌, List, [], ◌∷◌, length, get_or, Some, None, refl, sym, ap, ◌∙◌, mod-lt, arith}
use Rattle.std.proofs.lemmas.Bool.{le-ltb, eqb-true, or_from}
use Rattle.std.proofs.lemmas.List.{get_or-map, length-map}
use Rattle.std.proofs.Math.Nat.{div-le_self}
use Rattle.lines.specs.declared.line.Line.{Line}
use Rattle.lines.specs.declared.line.Side.{Side}
use Rattle.lines.specs.declared.line.Side.TheVariants.{Left, Right}
use Rattle.lines.specs.declared.refusal.ArrangeRefusal.{ArrangeRefusal}
use Rattle.lines.specs.Lines.{ends, end_of, end_at, on, Inside, DegreesWithin}
use Rattle.lines.specs.Refusals.{told, refusal, refusal_due, end_above, bounds_refusal}
use Rattle.lines.proofs.Accepted.{not_refused}
use Rattle.lines.proofs.Places.{end_line, length_ends}
use Rattle.lines.proofs.Pigeon.{deg_pigeon, count_by_cnt}
use Rattle.ports.specs.declared.transfer.Transfer.{Transfer}
use Rattle.ports.proofs.Places.{same_node}
use Rattle.timetables.specs.declared.seat.Seat.{Seat}
use Rattle.timetables.specs.Loads.{transfer_at}
use Rattle.timetables.specs.Timetables.{seat_at}
use Rattle.timetables.specs.Stages.{InRounds}
use Rattle.book.specs.Parts.{LowNodes, Arrangeable, places_of, line_at, lines_at}
use Rattle.book.proofs.Lists.{Lists, lists, apart, cnt_below}
use Rattle.book.proofs.Linking.{in_round}

none_above : (ls : List Line) → Inside (ends ls) → end_above ls ≡ false
none_above [] h = refl
none_above (x ∷ ls) h =
    or_from (ltb 511 x.left || ltb 511 x.right) (end_above ls)
    (or_from (ltb 511 x.left) (ltb 511 x.right) (le-ltb 511 x.left (omega (arith, h Left 0 (omega arith)))) (le-ltb 511 x.right (omega (arith, h Right 0 (omega arith)))))
    (none_above ls (λ s k l. h s (suc k) (omega arith)))

bounds_none : (ls : List Line) → length ls ≤ 1024 → Inside (ends ls) → bounds_refusal ls ≡ None
bounds_none ls few inside = rw (le-ltb 1024 (length ls) few, none_above ls inside) refl

-- no refusal is told where none is due
pub accepted : (served : Bool) (c : ℕ) (ls : List Line) (e : ArrangeRefusal) → served ≡ true → length ls ≤ 1024 → Inside (ends ls) → DegreesWithin c (ends ls) → Some (refusal e) ≡ refusal_due served c ls → ⊥
accepted served c ls e serves few inside within told =
    let none : refusal_due true c ls ≡ None = not_refused c ls (bounds_none ls few inside) within in
    let z : Some (refusal e) ≡ None = told ∙ ap (λ (b : Bool). refusal_due b c ls) serves ∙ none in
    let q : ◌≡◌ {A = ℕ} 0 1 = cc in omega arith

-- the node of a transfer on a side
abbrev pub node : Side → Transfer → ℕ
node Left t = t.sender
node Right t = t.receiver

module _ (n : ℕ) (ts : List Transfer) (ps : List ℕ) where
  pub long : length (ends (lines_at n ts ps)) ≡ length ps
  unfolding lines_at
  long = length_ends (lines_at n ts ps) ∙ length-map ps (line_at n ts)

  pub end_of_line : (s : Side) (a : ℕ) → a < length ps → end_at (ends (lines_at n ts ps)) s a ≡ node s (transfer_at ts (get_or ps a 0)) / n
  unfolding lines_at line_at
  end_of_line s a l =
      let none : Line = record { left = 0; right = 0; colour = 0 } in
      end_line (lines_at n ts ps) s a none (omega (arith, length-map ps (line_at n ts)))
      ∙ ap (end_of s) (get_or-map (line_at n ts) ps a 0 none l)
      ∙ end s (transfer_at ts (get_or ps a 0))
    where
      end : (s : Side) (t : Transfer) → end_of s (record { left = t.sender / n; right = t.receiver / n; colour = 0 }) ≡ node s t / n
      end Left t = refl
      end Right t = refl

module _ (n k : ℕ) (ts : List Transfer) (ss : List Seat) (rounds : InRounds 64 ts ss) (some : 0 < n) where
  pub is : Lists (in_round ss k) (length ss) (places_of k ss)
  unfolding places_of
  is = lists (in_round ss k) (length ss)

  pub few_lines : length ts ≤ 1024 → length (lines_at n ts (places_of k ss)) ≤ 1024
  few_lines few = omega (arith, length_ends (lines_at n ts (places_of k ss)), long n ts (places_of k ss), is.count, cnt_below (in_round ss k) (length ss), rounds.each)

  pub low_lines : LowNodes ts → Inside (ends (lines_at n ts (places_of k ss)))
  low_lines low s a l =
      let la : a < length (places_of k ss) = omega (arith, long n ts (places_of k ss)) in
      let i : ℕ = get_or (places_of k ss) a 0 in
      omega (arith, end_of_line n ts (places_of k ss) s a la, div-le_self (node s (transfer_at ts i)) n, below s (transfer_at ts i) (low i (omega (arith, is.below a la, rounds.each))))
    where
      below : (s : Side) (t : Transfer) → (t.sender < 512) × (t.receiver < 512) → node s t < 512
      below Left t h = h.0
      below Right t h = h.1

  -- nodes of one round differ
  nodes_differ : (s : Side) (i j : ℕ) → i < length ts → j < length ts → i ≢ j → in_round ss k i ≡ true → in_round ss k j ≡ true → node s (transfer_at ts i) ≢ node s (transfer_at ts j)
  nodes_differ s i j li lj ne hi hj = by s (rounds.differ i j li lj ne (eqb-true (seat_at ss i).round k hi ∙ sym (eqb-true (seat_at ss j).round k hj)))
    where
      by : (s : Side) → ((transfer_at ts i).sender ≢ (transfer_at ts j).sender) × ((transfer_at ts i).receiver ≢ (transfer_at ts j).receiver) → node s (transfer_at ts i) ≢ node s (transfer_at ts j)
      by Left h = h.0
      by Right h = h.1

  -- of n nodes on a line, each stands in one transfer of the round at most
  pub few_at_ends : DegreesWithin n (ends (lines_at n ts (places_of k ss)))
  few_at_ends s v =
      let ps : List ℕ = places_of k ss in
      let es : List (ℕ × ℕ) = ends (lines_at n ts ps) in
      let x : ℕ → ℕ = λ a. node s (transfer_at ts (get_or ps a 0)) in
      let within : (a : ℕ) → a < length es → a < length ps = λ a l. omega (arith, long n ts ps) in
      let low : (a : ℕ) → a < length ps → get_or ps a 0 < length ts = λ a l. omega (arith, is.below a l, rounds.each) in
      rw (count_by_cnt (λ p. eqb (on s p) v) es (0, 0))
      (deg_pigeon (end_at es s) (λ a. x a % n) (length es) n v (λ a _ _. mod-lt (x a) some)
      (λ a b la lb ne e e' same.
      let a' = within a la in
      let b' = within b lb in
      nodes_differ s (get_or ps a 0) (get_or ps b 0) (low a a') (low b b') (apart (in_round ss k) (length ss) ps is a b a' b' ne) (is.passes a a') (is.passes b b')
      (same_node n (x a) (x b) (sym (end_of_line n ts ps s a a') ∙ e ∙ sym e' ∙ end_of_line n ts ps s b b') same)))

  pub fit : length ts ≤ 1024 → LowNodes ts → Arrangeable n (lines_at n ts (places_of k ss))
  unfolding Arrangeable
  fit few low = (few_lines few, low_lines low, few_at_ends)

pub fit_within : (c : ℕ) (ls ms : List Line) → Arrangeable c ls → ms ≡ ls → DegreesWithin c (ends ms)
unfolding Arrangeable
fit_within c ls ms h e = rw e h.2
