-- Rounds need small loads; and where loads are small, R colours give the rounds, by node, and n colours the spines, by line and
-- round.
use Rattle.std.proofs.Common.{◌≡◌, ℕ, ◌+◌, ◌*◌, ◌/◌, ◌%◌, ◌<◌, ◌≤◌, List, map, length, sym, ap, ◌∙◌, mod-lt, arith}
use Rattle.std.specs.List.{range_with_len}
use Rattle.std.proofs.lemmas.Nat.{div-mul-add, mod-mul-add}
use Rattle.std.proofs.lemmas.List.FromFn.{length-map-range_with_len, get_or-map-range_with_len}
use Rattle.lines.proofs.Swap.{Once}
use Rattle.lines.proofs.Colour.{deg, colour, Coloured}
use Rattle.lines.proofs.Pigeon.{deg_pigeon}
use Rattle.ports.specs.declared.transfer.Transfer.{Transfer}
use Rattle.ports.proofs.Places.{same_node}
use Rattle.timetables.specs.declared.seat.Seat.{Seat}
use Rattle.timetables.specs.Loads.{transfer_at, LoadsWithin}
use Rattle.timetables.specs.Timetables.{seat_at}
use Rattle.timetables.specs.Stages.{InRounds, OnSpines}
use Rattle.timetables.proofs.Loads.{by_place}

-- transfers that R rounds keep apart load no node with more than R
pub loads_of : (R : ℕ) (ts : List Transfer) (ss : List Seat) → InRounds R ts ss → LoadsWithin R ts
loads_of R ts ss h v = (
  rw (by_place (λ t. t.sender) v ts)
      (deg_pigeon (λ i. (transfer_at ts i).sender) (λ i. (seat_at ss i).round) (length ts) R v (λ i l _. h.below i l)
      (λ i j li lj ne e e' same. (h.differ i j li lj ne same).0 (e ∙ sym e'))),
  rw (by_place (λ t. t.receiver) v ts)
      (deg_pigeon (λ i. (transfer_at ts i).receiver) (λ i. (seat_at ss i).round) (length ts) R v (λ i l _. h.below i l)
      (λ i j li lj ne e e' same. (h.differ i j li lj ne same).1 (e ∙ sym e'))),
)

-- the line of a node, and a round, as one number
abbrev key : ℕ → ℕ → (ℕ → ℕ) → (ℕ → ℕ) → ℕ → ℕ
key n R node round i = node i / n * R + round i

same_key : (R x y r s : ℕ) → r < R → s < R → x * R + r ≡ y * R + s → (x ≡ y) × (r ≡ s)
same_key R x y r s l k e = (sym (div-mul-add x R r l) ∙ ap (λ z. z / R) e ∙ div-mul-add y R s k, sym (mod-mul-add x R r l) ∙ ap (λ z. z % R) e ∙ mod-mul-add y R s k)

-- where a node stands at most once in a round, a line of n nodes stands at most n times
few_of_key : (n R k : ℕ) (node round : ℕ → ℕ) → 0 < n → ((i : ℕ) → i < k → round i < R) → Once node round k R → (v : ℕ) → deg (key n R node round) k v ≤ n
few_of_key n R k node round some low once v =
    deg_pigeon (key n R node round) (λ i. node i % n) k n v (λ i _ _. mod-lt (node i) some)
    (λ i j li lj ne e e' same.
    let s = same_key R (node i / n) (node j / n) (round i) (round j) (low i li) (low j lj) (e ∙ sym e') in
    omega (arith, once i j li lj ne (same_node n (node i) (node j) s.0 same) s.1, low i li))

-- the seats of k transfers with these rounds and spines
abbrev seated : (ℕ → ℕ) → (ℕ → ℕ) → ℕ → List Seat
seated f g k = map (λ i. record { round = f i; spine = g i }) (range_with_len 0 k)

seated_at : (f g : ℕ → ℕ) (k i : ℕ) → i < k → seat_at (seated f g k) i ≡ record { round = f i; spine = g i }
seated_at f g k i l = get_or-map-range_with_len (λ i. record { round = f i; spine = g i }) 0 k i i (record { round = 0; spine = 0 }) l (omega arith)

module _ (n R : ℕ) (ts : List Transfer) (f g : ℕ → ℕ) where
  abbrev sender : ℕ → ℕ
  sender i = (transfer_at ts i).sender

  abbrev receiver : ℕ → ℕ
  receiver i = (transfer_at ts i).receiver

  round_at : (i : ℕ) → i < length ts → (seat_at (seated f g (length ts)) i).round ≡ f i
  round_at i l = ap (λ s. s.round) (seated_at f g (length ts) i l)

  spine_at : (i : ℕ) → i < length ts → (seat_at (seated f g (length ts)) i).spine ≡ g i
  spine_at i l = ap (λ s. s.spine) (seated_at f g (length ts) i l)

  rounds_of : Coloured R sender receiver (length ts) f → InRounds R ts (seated f g (length ts))
  rounds_of h = record {
    each = length-map-range_with_len (λ i. record { round = f i; spine = g i }) 0 (length ts);
    below = λ i l. rw (round_at i l) (h.below i l);
    differ = λ i j li lj ne same.
        let one : f i ≡ f j = sym (round_at i li) ∙ same ∙ round_at j lj in
        (λ e. omega (arith, h.once_p i j li lj ne e one, h.below i li), λ e. omega (arith, h.once_q i j li lj ne e one, h.below i li));
  }

  spines_of : Coloured n (key n R sender f) (key n R receiver f) (length ts) g → OnSpines n R ts (seated f g (length ts))
  spines_of h = record {
    below = λ i l _. rw (spine_at i l) (h.below i l);
    differ = λ i j li lj ne _ same same'.
        let one : f i ≡ f j = sym (round_at i li) ∙ same ∙ round_at j lj in
        let spine : g i ≡ g j = sym (spine_at i li) ∙ same' ∙ spine_at j lj in
        (λ e. omega (arith, h.once_p i j li lj ne (rw (e, one)) spine, h.below i li), λ e. omega (arith, h.once_q i j li lj ne (rw (e, one)) spine, h.below i li));
  }

-- where no load is above R there are seats, in R rounds and on n spines
pub seats : (n R : ℕ) (ts : List Transfer) → 0 < n → LoadsWithin R ts → (ss : List Seat) × InRounds R ts ss × OnSpines n R ts ss
seats n R ts some few =
    let s : ℕ → ℕ = λ i. (transfer_at ts i).sender in
    let r : ℕ → ℕ = λ i. (transfer_at ts i).receiver in
    let rounds = colour R s r (length ts) (λ v. rw (← by_place (λ t. t.sender) v ts) (few v).0) (λ v. rw (← by_place (λ t. t.receiver) v ts) (few v).1) in
    let f : ℕ → ℕ = rounds.0 in
    let spines = colour n (key n R s f) (key n R r f) (length ts)
    (few_of_key n R (length ts) s f some rounds.1.below rounds.1.once_p)
    (few_of_key n R (length ts) r f some rounds.1.below rounds.1.once_q) in
    (seated f spines.0 (length ts), rounds_of n R ts f spines.0 rounds.1, spines_of n R ts f spines.0 spines.1)
