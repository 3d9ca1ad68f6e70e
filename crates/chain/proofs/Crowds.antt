-- At an end where a line has no colour, fewer colours are in use than lines stand there.
use Rattle.std.proofs.Common.{◌≡◌, ℕ, zero, suc, ◌<◌, ◌≤◌, Bool, true, false, ◌&&◌, eqb, ltb, cond, List, length, get_or, IfOk, OnErr, Some, None, Option, Result, sym, refl, ap, ◌∙◌, arith}
use Rattle.std.specs.Option.{ok_or}
use Rattle.std.proofs.lemmas.Bool.{lt-ltb, le-ltb, ltb-true, eq-eqb, and_from, and_parts, and_right, false≢true}
use Rattle.lines.specs.declared.line.Line.{Line}
use Rattle.lines.specs.Lines.{on, ends, end_at}
use Rattle.lines.proofs.Places.{length_ends}
use Rattle.lines.proofs.Count.{cnt, cnt_strict}
use Rattle.lines.proofs.Pigeon.{count_by_cnt}
use Rattle.chain.specs.declared.colour.Colour.{Colour}
use Rattle.chain.specs.declared.colour.NoColour.{NoColour}
use Rattle.chain.specs.declared.end.End.{End}
use Rattle.chain.specs.declared.slots.Slots.{Slots}
use Rattle.chain.specs.declared.colouring.Colouring.{Colouring}
use Rattle.chain.specs.Palettes.{uses, UnusedBelow}
use Rattle.chain.specs.Slots.{line_in}
use Rattle.chain.specs.Colourings.{Consistent, Stands, Bare, FreeBelow, Crowded, colour_at, slots_at}
use Rattle.chain.proofs.Laws.{unused_free}

-- a colour below a
abbrev below : Option ℕ → ℕ → Bool
below (Some x) a = ltb x a
below None a = false

below_more : (o : Option ℕ) (a : ℕ) → below o a ≡ true → below o (suc a) ≡ true
below_more (Some x) a e = lt-ltb x (suc a) (omega (arith, ltb-true x a e))
below_more None a e = absurd (false≢true e)

-- n lines with the ends e on one side and the colours c
module _ (e : ℕ → ℕ) (c : ℕ → Option ℕ) (n v : ℕ) where
  abbrev stands : ℕ → ℕ → Bool
  stands a k = eqb (e k) v && below (c k) a

  crowd : (a : ℕ) → ((b : ℕ) → b < a → (k : ℕ) × (k < n) × (e k ≡ v) × (c k ≡ Some b)) → a ≤ cnt (stands a) n
  crowd zero h = omega arith
  crowd (suc a) h =
      let q = h a (omega arith) in
      let k = q.0 in
      let off : stands a k ≡ false = and_right (eqb (e k) v) (below (c k) a) (ap (λ (o : Option ℕ). below o a) q.3 ∙ le-ltb a a (omega arith)) in
      let on : stands (suc a) k ≡ true = and_from (eqb (e k) v) (below (c k) (suc a)) (eq-eqb (e k) v q.2) (ap (λ (o : Option ℕ). below o (suc a)) q.3 ∙ lt-ltb a (suc a) (omega arith)) in
      omega (
        arith,
        crowd a (λ b l. h b (omega arith)),
        cnt_strict (stands a) (stands (suc a)) n k
            (λ j l t. let z = and_parts (eqb (e j) v) (below (c j) a) t in and_from (eqb (e j) v) (below (c j) (suc a)) z.0 (below_more (c j) a z.1))
            q.1 off on,
      )

  -- the colours below r are in use, and the line i has none
  pub crowded_end : (r i : ℕ) → i < n → e i ≡ v → c i ≡ None → ((b : ℕ) → b < r → (k : ℕ) × (k < n) × (e k ≡ v) × (c k ≡ Some b)) → r < cnt (λ k. eqb (e k) v) n
  crowded_end r i l ei ci h =
      let off : stands r i ≡ false = and_right (eqb (e i) v) (below (c i) r) (ap (λ (o : Option ℕ). below o r) ci) in
      omega (arith, crowd r h, cnt_strict (stands r) (λ k. eqb (e k) v) n i (λ j m t. (and_parts (eqb (e j) v) (below (c j) r) t).0) l off (eq-eqb (e i) v ei))

-- the line k has no colour at the end e, where the lines are t
module _ (ls : List Line) (w : Colouring) (e : End) (k c : ℕ) (t : Slots) (is_slots : t ≡ slots_at w e.side e.number) (h : Consistent (ends ls) w) (within : k < length ls) (bare : Bare w k) (stands : Stands (ends ls) k e)
    (low : c ≤ 64) where
  -- if all colours below c are in use there, the end is crowded
  all_used : ((b : ℕ) → b < 64 → b < c → uses t.palette.free b ≡ true) → Crowded c (ends ls)
  unfolding Consistent Bare Stands Crowded
  all_used used =
      let ps = ends ls in
      let crowd : c < cnt (λ j. eqb (end_at ps e.side j) e.number) (length ps) =
      crowded_end (end_at ps e.side) (colour_at w) (length ps) e.number c k (rw (length_ends ls) within) (sym stands) bare
      (λ b l.
      let j = get_or t.lines b 0 in
      let q = h.agrees.line e.side e.number b j e.inside (omega arith) (ap (λ (s : Slots). line_in s b) (sym is_slots) ∙ ap (λ (t : Bool). cond t (Some j) None) (used b (omega arith) l)) in
      (j, h.within j b q.1, q.0, q.1)) in
      (e.side, e.number, omega (arith, crowd, count_by_cnt (λ p. eqb (on e.side p) e.number) ps (0, 0)))

  -- what the choice of one of the c colours gives
  module _ (o : Option Colour) (m : UnusedBelow t.palette.free c o) (x : NoColour) where
    pub chosen_free : (r : Result Colour NoColour) → r ≡ ok_or o x → IfOk r (FreeBelow c (ends ls) w e)
    chosen_free r is = rw is (free o m)
      where
        free : (p : Option Colour) → UnusedBelow t.palette.free c p → IfOk (ok_or p x) (FreeBelow c (ends ls) w e)
        free (Some a) n = record { below = n.below a refl; free = unused_free (ends ls) w e a t h is_slots (n.free a refl) }
        free None n = tt

    pub none_crowded : (r : Result Colour NoColour) → r ≡ ok_or o x → OnErr r (Crowded c (ends ls))
    none_crowded r is = rw is (crowded o m)
      where
        crowded : (p : Option Colour) → UnusedBelow t.palette.free c p → OnErr (ok_or p x) (Crowded c (ends ls))
        crowded (Some a) n = tt
        crowded None n = all_used (n.all refl)

pub ruleset choosing = (chosen_free, none_crowded)
