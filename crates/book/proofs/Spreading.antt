-- Spines are put into the seats at some places.
use Rattle.std.proofs.Common.{◌≡◌, ℕ, ◌+◌, ◌<◌, ◌≤◌, ◌≢◌, List, length, get_or, set, refl, sym, ap, ◌∙◌, inl, inr, arith, length-set}
use Rattle.std.proofs.lemmas.List.{get_or-set_other, get_or-set_same}
use Rattle.std.proofs.lemmas.Bool.{cases_eq, cases_lt}
use Rattle.lines.specs.declared.line.Line.{Line}
use Rattle.lines.specs.Lines.{colours}
use Rattle.lines.proofs.Places.{colour_line}
use Rattle.timetables.specs.declared.seat.Seat.{Seat}
use Rattle.timetables.specs.Timetables.{seat_at}
use Rattle.book.specs.Parts.{Places, SameRounds, Spread, on_spine}

-- the seats at the first k places have their spines
unfoldable pub SpreadTo : ℕ → List ℕ → List Line → List Seat → List Seat → Type 0
SpreadTo k ps ls old new =
    SameRounds old new
    × ((a : ℕ) → a < k → a < length ps → (seat_at new (get_or ps a 0)).spine ≡ get_or (colours ls) a 0)
    × ((i : ℕ) → ((a : ℕ) → a < k → a < length ps → get_or ps a 0 ≢ i) → (seat_at new i).spine ≡ (seat_at old i).spine)

pub spread_none : (ps : List ℕ) (ls : List Line) (ss : List Seat) → SpreadTo 0 ps ls ss ss
unfolding SpreadTo
spread_none ps ls ss = (record { each = refl; same = λ i. refl }, λ a l. absurd (omega arith), λ i h. refl)

pub spread_all : (k : ℕ) (ps : List ℕ) (ls : List Line) (old new : List Seat) → SpreadTo k ps ls old new → length ps ≤ k → Spread ps ls old new
unfolding SpreadTo
spread_all k ps ls old new h all = record { rounds = h.0; given = λ a l. h.1 a (omega arith) l; others = λ i off. h.2 i (λ a _ l. off a l) }

pub spread_long : (k : ℕ) (ps : List ℕ) (ls : List Line) (old new : List Seat) → SpreadTo k ps ls old new → length new ≡ length old
unfolding SpreadTo
spread_long k ps ls old new h = h.0.each

pub spread_more : (k : ℕ) (ps : List ℕ) (ls : List Line) (old new : List Seat) (p j : ℕ) → SpreadTo k ps ls old new → Places (length old) ps → k < length ps → p ≡ get_or ps k 0 → j ≡ get_or (colours ls) k 0
    → SpreadTo (k + 1) ps ls old (on_spine new p j)
unfolding SpreadTo on_spine
spread_more k ps ls old new p j h places l at spine =
    let none : Seat = record { round = 0; spine = 0 } in
    let s : Seat = record { round = (seat_at new p).round; spine = j } in
    let low : p < length new = omega (arith, places.below k l, h.0.each) in
    let here : seat_at (set new p s) p ≡ s = get_or-set_same new p s none low in
    let there : (i : ℕ) → i ≢ p → seat_at (set new p s) i ≡ seat_at new i = λ i ne. get_or-set_other new p i s none ne in (
      record {
        each = length-set new p s ∙ h.0.each;
        same = λ i. elim (cases_eq i p) [
          | inl e ↦ rw (e, here) (h.0.same p)
          | inr ne ↦ rw (there i ne) (h.0.same i)
        ];
      },
      λ a la lp. elim (cases_lt a k) [
        | inl b ↦ (let ne : get_or ps a 0 ≢ p = (λ e. omega (arith, places.rise a k b l)) in rw (there (get_or ps a 0) ne) (h.1 a b lp))
        | inr b ↦ (let e : a ≡ k = omega arith in rw (e, ← at, here) spine)
      ],
      λ i off.
          let ne : i ≢ p = λ e. off k (omega arith) l (sym (e ∙ at)) in
          rw (there i ne) (h.2 i (λ a la lp. off a (omega arith) lp)),
    )

pub spread_line : (k : ℕ) (ps : List ℕ) (ls : List Line) (old new : List Seat) (p : ℕ) (x : Line) → SpreadTo k ps ls old new → Places (length old) ps → length ls ≡ length ps → k < length ls → p ≡ get_or ps k 0 → x ≡ get_or ls k x
    → SpreadTo (k + 1) ps ls old (on_spine new p x.colour)
spread_line k ps ls old new p x h places long l at is = spread_more k ps ls old new p x.colour h places (omega arith) at (ap (λ (y : Line). y.colour) is ∙ sym (colour_line ls k x l))

pub ruleset spreading = (spread_none, spread_all, spread_long, spread_line)
