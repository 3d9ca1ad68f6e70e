-- Transfers read from bytes, and seats written into them.
use Rattle.std.proofs.Common.{◌≡◌, ℕ, ◌+◌, ◌*◌, ◌/◌, ◌<◌, ◌≢◌, List, map, length, get_or, take, drop, set, sym, refl, ◌∙◌, ⊎_elim, arith}
use Rattle.std.specs.Simd.{first_chunks}
use Rattle.std.proofs.lemmas.List.{get_or-set_same, get_or-set_other, get_or_default, same_lists, length-set}
use Rattle.std.proofs.lemmas.Bool.{cases_eq}
use Rattle.std.proofs.lemmas.List.FromFn.{length-map-range_with_len, get_or-map-range_with_len}
use Rattle.timetables.specs.declared.seat.Seat.{Seat}
use Rattle.timetables.specs.Timetables.{seat_at}
use Rattle.book_exports.specs.Seats.{transfer_in, seat_in, transfers_in, seats_in, SeatsPut, NodesKept}
use Rattle.book_exports.proofs.Cells.{first_byte, byte_at, by_cells}

-- six bytes are those of a transfer
cell_transfer : (bs : List ℕ) (i : ℕ) → transfer_in (take 6 (drop (i * 6) bs)) 0 ≡ transfer_in bs i
cell_transfer bs i = rw (first_byte 6 bs i (omega arith), byte_at 6 bs i 1 (omega arith), byte_at 6 bs i 2 (omega arith), byte_at 6 bs i 3 (omega arith)) refl

pub transfers_by_six : (bs : List ℕ) → map (λ cell. transfer_in cell 0) (first_chunks 6 (length bs / 6) bs) ≡ transfers_in bs
transfers_by_six bs = by_cells 6 (λ cell. transfer_in cell 0) transfer_in cell_transfer bs

pub length_transfers : (bs : List ℕ) → length (transfers_in bs) ≡ length bs / 6
length_transfers bs = length-map-range_with_len (transfer_in bs) 0 (length bs / 6)

-- one seat more in the bytes
module _ (bs : List ℕ) (i r s : ℕ) (l : 6 * i + 5 < length bs) where
  put : List ℕ
  put = set (set bs (6 * i + 4) r) (6 * i + 5) s

  byte_kept : (k : ℕ) → k ≢ 6 * i + 4 → k ≢ 6 * i + 5 → get_or put k 0 ≡ get_or bs k 0
  unfolding put
  byte_kept k a b = get_or-set_other (set bs (6 * i + 4) r) (6 * i + 5) k s 0 (λ z. b (omega arith)) ∙ get_or-set_other bs (6 * i + 4) k r 0 (λ z. a (omega arith))

  seat_here : seat_in put i ≡ record { round = r; spine = s }
  unfolding put
  seat_here =
      let round : get_or put (6 * i + 4) 0 ≡ r = get_or-set_other (set bs (6 * i + 4) r) (6 * i + 5) (6 * i + 4) s 0 (λ z. omega arith) ∙ get_or-set_same bs (6 * i + 4) r 0 (omega arith) in
      let spine : get_or put (6 * i + 5) 0 ≡ s = get_or-set_same (set bs (6 * i + 4) r) (6 * i + 5) s 0 (omega (arith, length-set bs (6 * i + 4) r)) in
      rw (round, spine) refl

  pub seats_more : (ss : List Seat) → record { round = r; spine = s } ≡ seat_at ss i → SeatsPut i ss bs → SeatsPut (i + 1) ss (set (set bs (6 * i + 4) r) (6 * i + 5) s)
  unfolding put
  seats_more ss e h j m =
      ⊎_elim
      (λ (q : j ≡ i). rw q (seat_here ∙ e))
      (λ (q : j ≢ i).
      let round = byte_kept (6 * j + 4) (λ z. q (omega arith)) (λ z. omega arith) in
      let spine = byte_kept (6 * j + 5) (λ z. omega arith) (λ z. q (omega arith)) in
      rw (round, spine) (h j (omega arith)))
      (cases_eq j i)

  pub nodes_more : (cs : List ℕ) → NodesKept cs bs → NodesKept cs (set (set bs (6 * i + 4) r) (6 * i + 5) s)
  unfolding put
  nodes_more cs h k low = byte_kept k (λ z. omega arith) (λ z. omega arith) ∙ h k low

pub ruleset putting = (seats_more, nodes_more)

-- as many seats as there is room for, all put into the bytes, are those that then stand there
pub seats_stand : (bs : List ℕ) (ss : List Seat) → length ss ≡ length bs / 6 → SeatsPut (length ss) ss bs → seats_in bs ≡ ss
seats_stand bs ss each h =
    let n = length bs / 6 in
    same_lists (seats_in bs) ss (length-map-range_with_len (seat_in bs) 0 n ∙ sym each)
    (λ i d l.
    let low : i < n = omega (arith, length-map-range_with_len (seat_in bs) 0 n) in
    get_or-map-range_with_len (seat_in bs) 0 n i i d low (omega arith) ∙ h i (omega arith) ∙ get_or_default ss i (record { round = 0; spine = 0 }) d (omega arith))
