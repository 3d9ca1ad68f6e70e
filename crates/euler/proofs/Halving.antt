-- From partners in different halves to shares that differ by at most one.
use Rattle.std.proofs.Common.{◌≡◌, ℕ, ◌+◌, ◌<◌, ◌≤◌, Bool, true, false, not, ◌≢◌, List, length, get_or, is_some, Some, None, Option, sym, ap, ◌∙◌, arith}
use Rattle.std.proofs.lemmas.List.{get_or_past}
use Rattle.lines.specs.declared.line.Line.{Line}
use Rattle.lines.specs.declared.line.Side.{Side}
use Rattle.lines.specs.declared.line.Side.TheVariants.{Left, Right}
use Rattle.lines.specs.Lines.{ends, colours, end_at}
use Rattle.lines.proofs.Places.{same_length}
use Rattle.euler.specs.Halves.{share, Halved}
use Rattle.euler.specs.declared.pairs.Partners.{Partners}
use Rattle.euler.specs.Pairs.{at, nobody, partner, cnt, has, Paired}
use Rattle.euler.specs.Walks.{Symmetric, Settled, bit}
use Rattle.euler.proofs.Counting.{share_cnt}
use Rattle.euler.proofs.Walking.{some_is}

bit_two : (o : Option Bool) → bit o < 2
bit_two (Some true) = omega arith
bit_two (Some false) = omega arith
bit_two None = omega arith

bit_differ : (b : Bool) → bit (Some (not b)) ≢ bit (Some b)
bit_differ true e = omega arith
bit_differ false e = omega arith

-- a line with a partner is in the table
inside : (ps : List Partners) (t : Side) (k j : ℕ) → partner ps t k ≡ Some j → k < length ps
inside ps Left k j z = let past = get_or_past ps k nobody in grind arith
inside ps Right k j z = let past = get_or_past ps k nobody in grind arith

module _ (n : ℕ) (ps : List Partners) (e : Side → ℕ → ℕ) (long : length ps ≡ n) (paired : (t : Side) → Paired n (e t) (partner ps t)) where
  -- the partner of a line in the table is one of the lines
  pub symmetric_from : Symmetric (length ps) (partner ps)
  symmetric_from t k j z = rw long ((paired t).symmetric k j (omega (arith, inside ps t k j z)) z)

  module _ (hs : List (Option Bool)) (settled : Settled (partner ps) (at hs)) (placed : (k : ℕ) → k < n → is_some (at hs k) ≡ true)
      (c : ℕ → ℕ) (told : (k : ℕ) → k < n → c k ≡ bit (at hs k)) where
    differ : (t : Side) (k j : ℕ) → k < n → j < n → partner ps t k ≡ Some j → c j ≢ c k
    differ t k j lk lj z y =
        let b = some_is (at hs k) (placed k lk) in
        let o : at hs j ≡ Some (not b.0) = settled t k b.0 b.1 j z in
        bit_differ b.0 (sym (told j lj ∙ ap bit o) ∙ y ∙ told k lk ∙ ap bit b.1)

    pub even : (s : Side) (v : ℕ) → (cnt (has (e s) c v 0) n ≤ cnt (has (e s) c v 1) n + 1) × (cnt (has (e s) c v 1) n ≤ cnt (has (e s) c v 0) n + 1)
    even s v = (paired s).even c (record { two = λ k l. rw (told k l) (bit_two (at hs k)); differ = λ k j l z. differ s k j l ((paired s).symmetric k j l z).0 z }) v

pub halved_from : (before after : List Line) (ps : List Partners) (hs : List (Option Bool)) → length ps ≡ length before
    → ((t : Side) → Paired (length before) (end_at (ends before) t) (partner ps t)) → Settled (partner ps) (at hs)
    → ((k : ℕ) → k < length before → is_some (at hs k) ≡ true) → ends after ≡ ends before → ((k : ℕ) → k < length before → get_or (colours after) k 0 ≡ bit (at hs k)) → Halved before after
halved_from before after ps hs long paired settled placed same told =
    let n : length after ≡ length before = same_length before after same in
    record {
      same = same;
      two = λ k l. rw (told k (omega arith)) (bit_two (at hs k));
      even = λ s v.
          let h = even (length before) ps (end_at (ends before)) long paired hs settled placed (λ k. get_or (colours after) k 0) told s v in
          let at_share : (z : ℕ) → cnt (has (end_at (ends before) s) (λ k. get_or (colours after) k 0) v z) (length before) ≡ share s v z after
          = λ z. ap (λ (qs : List (ℕ × ℕ)). cnt (has (end_at qs s) (λ k. get_or (colours after) k 0) v z) (length before)) (sym same) ∙ ap (cnt (has (end_at (ends after) s) (λ k. get_or (colours after) k 0) v z)) (sym n) ∙ share_cnt after s v z in
          (omega (arith, at_share 0, at_share 1, h.0), omega (arith, at_share 0, at_share 1, h.1));
    }
