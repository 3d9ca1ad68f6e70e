-- How the lines lose and get colours. The proofs of functions go by these laws; a ruleset has those of one function.
use Rattle.std.proofs.Common.{◌≡◌, ℕ, ◌+◌, ◌<◌, ◌≤◌, ◌≢◌, Bool, false, cond, List, length, get_or, MatchOption, Some, None, Option, sym, refl, ap, ◌∙◌, ⊎_elim, arith}
use Rattle.std.proofs.lemmas.Bool.{cases_eq}
use Rattle.lines.specs.declared.line.Line.{Line}
use Rattle.lines.specs.declared.line.Side.{Side}
use Rattle.lines.specs.declared.line.Side.TheVariants.{Left, Right}
use Rattle.lines.specs.Lines.{other, end_of, ends, end_at, Inside}
use Rattle.lines.proofs.Places.{length_ends, end_line}
use Rattle.lines.proofs.Count.{cnt}
use Rattle.chain.specs.declared.colour.Colour.{Colour}
use Rattle.chain.specs.declared.end.End.{End}
use Rattle.chain.specs.declared.exchange.InHand.{InHand}
use Rattle.chain.specs.declared.colouring.Colouring.{Colouring}
use Rattle.chain.specs.declared.slots.Slots.{Slots}
use Rattle.chain.specs.Palettes.{uses}
use Rattle.chain.specs.Slots.{line_in}
use Rattle.chain.specs.Colourings.{slots_at, Empty, Consistent, Stands, Bare, FreeAt, FreeFor, Found, Written, Stored, Repainted, Exchanged, Joins, Held, LiftedAt, NoneAt, Stepped, Ended, Partly, colour_at, line_at}
use Rattle.chain.proofs.Paths.{none_some, bare_free, bare_here, free_both, same_colour, Carried, carried_first, carried_last, carried_next, fewer_same, other_twice, swap_none, swap_bare, free_after}
use Rattle.chain.proofs.Steps.{facts_apart, stored_tables, painted, lines_both, coloured_inside}
use Rattle.chain.proofs.Tables.{lifted, laid, spare_free}

-- the end of the line k on a side
pub end_low : (ls : List Line) (s : Side) (k v : ℕ) (d : Line) → v ≡ end_of s (get_or ls k d) → Inside (ends ls) → k < length ls → v < 512
end_low ls s k v d is inside l = rw is (rw (end_line ls s k d l) at (inside s k (rw (length_ends ls) l)))

pub end_stands : (ls : List Line) (s : Side) (k v : ℕ) (low : v < 512) (d : Line) → v ≡ end_of s (get_or ls k d) → k < length ls → Stands (ends ls) k (record { side = s; number = v; inside = low })
unfolding Stands
end_stands ls s k v low d is l = is ∙ sym (end_line ls s k d l)

pub ruleset standing = (end_low, end_stands)

-- what a look-up says of the lines
pub found : (ls : List Line) (w : Colouring) (e : End) (a : Colour) (o : Option ℕ) → Consistent (ends ls) w → o ≡ line_at w e.side e.number a.number → MatchOption o (FreeAt (ends ls) w e a) (λ k. Found ls w e a k)
unfolding Consistent Stands FreeAt
found ls w e a (Some k) h r =
    let m = h.agrees.line e.side e.number a.number k e.inside a.low (sym r) in
    record { within = rw (length_ends ls) at (h.within k a.number m.1); stands = sym m.0; has = m.1 }
found ls w e a None h r = spare_free (end_at (ends ls)) (colour_at w) (line_at w) h.agrees e.side e.number a.number (sym r)

-- a colour that the palette of an end has free
pub unused_free : (ps : List (ℕ × ℕ)) (w : Colouring) (e : End) (a : Colour) (t : Slots) → Consistent ps w → t ≡ slots_at w e.side e.number → uses t.palette.free a.number ≡ false → FreeAt ps w e a
unfolding Consistent FreeAt
unused_free ps w e a t h is unused =
    spare_free (end_at ps) (colour_at w) (line_at w) h.agrees e.side e.number a.number
    (ap (λ (s : Slots). line_in s a.number) (sym is) ∙ ap (λ (u : Bool). cond u (Some (get_or t.lines a.number 0)) None) unused)

-- a colour that is free at both ends of the line k
pub free_both_ends : (ps : List (ℕ × ℕ)) (w : Colouring) (k : ℕ) (a : Colour) (l r : End) → l.side ≡ Left → r.side ≡ Right → Stands ps k l → Stands ps k r → FreeAt ps w l a → FreeAt ps w r a → FreeFor ps w k a
unfolding Stands FreeAt FreeFor
free_both_ends ps w k a l r sl sr el er fl fr Left = rw (el, sl) at fl
free_both_ends ps w k a l r sl sr el er fl fr Right = rw (er, sr) at fr

-- the line k loses its colour a: u is w after the writes at both ends and at the line
module _ (w x y u : Colouring) (k : ℕ) (a : Colour) (l r : End) (st : Stored y u k None) (wr : Written x y r a None) (wl : Written w x l a None) where
  pub lift_consistent : (ps : List (ℕ × ℕ)) → l.side ≡ Left → Stands ps k l → r.side ≡ Right → Stands ps k r → Consistent ps w → Inside ps → k < 1024 → colour_at w k ≡ Some a.number → Consistent ps u
  unfolding Stands Consistent
  lift_consistent ps sl el sr er h i n has =
      let p = painted w x y u k a l r None None n st wr wl in
      record {
        within = λ j b c.
            let nk : j ≡ k → ⊥ = λ z. none_some (colour_at u j) b (ap (colour_at u) z ∙ p.new) c in
            h.within j b (sym (p.old j nk) ∙ c);
        agrees = stored_tables ps y u k None st
            (lifted (end_at ps) (colour_at w) (colour_at u) (line_at w) (line_at y) k a.number h.agrees (coloured_inside ps w h i) has
            (lines_both w x y u k a l r None None n st wr wl ps sl el sr er) p);
      }

  pub lift_repainted : k < 1024 → Repainted w u k None
  unfolding Repainted
  lift_repainted n = painted w x y u k a l r None None n st wr wl

  pub lift_freed : (ps : List (ℕ × ℕ)) → Consistent ps w → k < 1024 → colour_at w k ≡ Some a.number → FreeFor ps u k a
  unfolding Consistent FreeFor
  lift_freed ps h n has = bare_here (end_at ps) (colour_at w) (colour_at u) k a.number has (painted w x y u k a l r None None n st wr wl) (facts_apart ps w h)

pub ruleset lifting = (lift_consistent, lift_repainted, lift_freed)

-- the line k, which has no colour, is given a, which is free at both of its ends
module _ (w x y u : Colouring) (k : ℕ) (a : Colour) (l r : End) (st : Stored y u k (Some a)) (wr : Written x y r a (Some k)) (wl : Written w x l a (Some k)) where
  pub lay_consistent : (ls : List Line) → l.side ≡ Left → Stands (ends ls) k l → r.side ≡ Right → Stands (ends ls) k r → Consistent (ends ls) w → FreeFor (ends ls) w k a → Bare w k → Inside (ends ls) → k < length ls → k < 1024 → Consistent (ends ls) u
  unfolding Stands Consistent FreeFor Bare
  lay_consistent ls sl el sr er h free bare i lk n =
      let ps = ends ls in
      let p = painted w x y u k a l r (Some a) (Some k) n st wr wl in
      record {
        within = λ j b c. ⊎_elim (λ (z : j ≡ k). rw (z, length_ends ls) lk) (λ (nk : j ≡ k → ⊥). h.within j b (sym (p.old j nk) ∙ c)) (cases_eq j k);
        agrees = stored_tables ps y u k (Some a) st
            (laid (end_at ps) (colour_at w) (colour_at u) (line_at w) (line_at y) k a.number h.agrees (coloured_inside ps w h i) bare free
            (lines_both w x y u k a l r (Some a) (Some k) n st wr wl ps sl el sr er) p);
      }

  pub lay_repainted : k < 1024 → Repainted w u k (Some a)
  unfolding Repainted
  lay_repainted n = painted w x y u k a l r (Some a) (Some k) n st wr wl

pub ruleset laying = (lay_consistent, lay_repainted)

-- what becomes of the line that had the colour a at the end e, if any
abbrev pub Lifting : List Line → Colouring → Colouring → End → Colour → Option ℕ → Type 0
Lifting ls w u e a o = MatchOption o (NoneAt ls w u e a) (λ k. LiftedAt ls w u e a k)

-- the line in hand gets its new colour; u is w after the next line, if any, has lost that colour
module _ (ls : List Line) (w u : Colouring) (hand : InHand) (h : Held ls w hand) where
  pub step_bare : (o : Option ℕ) → Lifting ls w u hand.far hand.new o → Bare u hand.line
  unfolding Bare Repainted
  step_bare None m = ap (λ x. colour_at x hand.line) m.same ∙ h.bare
  step_bare (Some k) m =
      ⊎_elim
      (λ (z : hand.line ≡ k). ap (colour_at u) z ∙ m.repainted.new)
      (λ (ne : hand.line ≡ k → ⊥). m.repainted.old hand.line ne ∙ h.bare)
      (cases_eq hand.line k)

  pub step_free : (o : Option ℕ) → Lifting ls w u hand.far hand.new o → FreeFor (ends ls) u hand.line hand.new
  unfolding FreeFor FreeAt Stands Repainted
  step_free None m =
      rw m.same (free_both (end_at (ends ls)) (colour_at w) hand.line hand.new.number hand.near.side (rw h.joins.from at h.free) (rw (h.joins.to, h.joins.across) at m.free))
  step_free (Some k) m =
      free_both (end_at (ends ls)) (colour_at u) hand.line hand.new.number hand.near.side
      (bare_free (end_at (ends ls)) (colour_at w) (colour_at u) k hand.new.number m.found.has m.repainted hand.near.side (end_at (ends ls) hand.near.side hand.line) hand.new.number (rw h.joins.from at h.free))
      (rw (sym m.found.stands ∙ h.joins.to, h.joins.across) at (m.freed hand.far.side))

  pub step_last : (x : Colouring) → Lifting ls w u hand.far hand.new None → Repainted u x hand.line (Some hand.new) → Ended ls w x hand
  step_last x m p = record { free = m.free; repainted = rw m.same at p }

  pub step_on : (x : Colouring) (f : End) (k : ℕ) (o : Option ℕ) → Lifting ls w u hand.far hand.new o → o ≡ Some k → Repainted u x hand.line (Some hand.new) → Stands (ends ls) k f → f.side ≡ hand.near.side
      → Stepped ls w x hand (record { line = k; near = hand.far; far = f; old = hand.new; new = hand.old })
  unfolding Bare Repainted
  step_on x f k o q z p to side =
      let m : LiftedAt ls w u hand.far hand.new k = rw z at q in
      let other_line : k ≢ hand.line = λ z. none_some (colour_at w k) hand.new.number (ap (colour_at w) z ∙ h.bare) m.found.has in
      record {
        found = m.found;
        passed = record { new = p.new; gone = p.old k other_line ∙ m.repainted.new; old = λ i nk nj. p.old i nk ∙ m.repainted.old i nj };
        joins = record { from = m.found.stands; to = to; across = side ∙ sym (ap other h.joins.across ∙ other_twice hand.near.side) };
        near = refl;
        old = refl;
        new = refl;
      }

pub ruleset stepping = (step_bare, step_free, step_last, step_on)

-- what a step leaves behind, with the line that is in hand from then on, if any
abbrev pub Stepping : List Line → Colouring → Colouring → InHand → Option InHand → Type 0
Stepping ls w u hand o = MatchOption o (Ended ls w u hand) (λ next. Stepped ls w u hand next)

-- how far the exchange of a and b from the end e has come, when a line is in hand
abbrev pub CarriedTo : List Line → Colouring → Colouring → End → Colour → Colour → InHand → Type 0
CarriedTo ls w u e a b hand = Carried (end_at (ends ls)) (colour_at w) (colour_at u) e.side e.number a.number b.number hand.line hand.near.side hand.far.side hand.old.number hand.new.number

-- the same, shut: the proofs of functions read only what a step asks for
pub record Exchanging (ls : List Line) (w u : Colouring) (e : End) (a b : Colour) (hand : InHand) : Type 0 where
  pub held : Held ls u hand
  carried : CarriedTo ls w u e a b hand

exchange_now : (ls : List Line) (w u : Colouring) (e : End) (a b : Colour) (hand : InHand) → hand.line < length ls → Joins (ends ls) hand.line hand.near hand.far → CarriedTo ls w u e a b hand → Exchanging ls w u e a b hand
unfolding Bare FreeAt Stands
exchange_now ls w u e a b hand within joins c = record { held = record { within = within; joins = joins; bare = c.bare; free = rw joins.from c.near }; carried = c }

-- how many lines have the colour that they had at first
unfoldable pub unchanged : Colouring → Colouring → ℕ
unchanged w u = cnt (λ k. same_colour (colour_at w k) (colour_at u k)) 1024

below : (k m n : ℕ) → k < m → m ≤ n → k < n
below k m n l le = omega arith

-- the line k, at which the path begins, is in hand, and f is its far end
pub exchange_begun : (ls : List Line) (w u : Colouring) (e f : End) (t : Side) (a b : Colour) (k : ℕ) → Lifting ls w u e a (Some k) → Consistent (ends ls) w → FreeAt (ends ls) w e b → Stands (ends ls) k f → t ≡ other e.side → f.side ≡ t
    → Exchanging ls w u e a b (record { line = k; near = e; far = f; old = a; new = b })
unfolding Consistent FreeAt Stands Repainted
exchange_begun ls w u e f t a b k m i free to across side =
    exchange_now ls w u e a b (record { line = k; near = e; far = f; old = a; new = b }) m.found.within (record { from = m.found.stands; to = to; across = side ∙ across })
    (rw (side ∙ across, m.found.stands) (
    carried_first (end_at (ends ls)) (colour_at w) (colour_at u) e.side a.number b.number k m.found.has m.repainted (facts_apart (ends ls) w i) (rw m.found.stands at free)))

module _ (ls : List Line) (w u : Colouring) (e : End) (a b : Colour) where
  pub exchange_nothing : NoneAt ls w u e a → Exchanged (ends ls) w u e a b
  unfolding Exchanged FreeAt
  exchange_nothing m = rw m.same (swap_none (end_at (ends ls)) (colour_at w) e.side e.number a.number b.number m.free)

  module _ (x : Colouring) (hand : InHand) (h : Exchanging ls w u e a b hand) where
    pub exchange_ended : Ended ls u x hand → FreeAt (ends ls) w e b → Exchanged (ends ls) w x e a b
    unfolding Exchanged FreeAt Repainted
    exchange_ended m free = carried_last h.carried (colour_at x) free m.repainted

    module _ (next : InHand) (m : Stepping ls u x hand (Some next)) (i : Consistent (ends ls) w) (j : Consistent (ends ls) u) where
      meets : end_at (ends ls) hand.far.side next.line ≡ end_at (ends ls) hand.far.side hand.line
      unfolding Stands
      meets = sym m.found.stands ∙ h.held.joins.to

      pub exchange_goes_on : FreeAt (ends ls) w e b → Exchanging ls w x e a b next
      unfolding Consistent FreeAt
      exchange_goes_on free =
          let back : other hand.far.side ≡ hand.near.side = ap other h.held.joins.across ∙ other_twice hand.near.side in
          exchange_now ls w x e a b next m.found.within m.joins
          (rw (m.joins.across, m.near, m.old, m.new, back) (
          carried_next h.carried (colour_at x) next.line (facts_apart (ends ls) w i) (facts_apart (ends ls) u j) m.found.has meets m.passed free))

      pub exchange_smaller : length ls ≤ 1024 → unchanged w x < unchanged w u
      unfolding unchanged Consistent
      exchange_smaller few =
          fewer_same h.carried (colour_at x) next.line (facts_apart (ends ls) w i) (facts_apart (ends ls) u j) m.found.has meets m.passed 1024 (below next.line (length ls) 1024 m.found.within few)

pub ruleset exchanging = (exchange_nothing, exchange_begun, exchange_ended, exchange_goes_on, exchange_smaller)

-- the line i is the first without a colour
pub insert_bare : (w : Colouring) (c i : ℕ) → Partly c i w → Bare w i
unfolding Bare
insert_bare w c i h = h.rest i (omega arith)

pub insert_more : (w u : Colouring) (c i : ℕ) (a : Colour) → Repainted w u i (Some a) → Partly c i w → a.number < c → Partly c (i + 1) u
unfolding Repainted
insert_more w u c i a p h la = record {
  done = λ k l.
      ⊎_elim
      (λ (z : k ≡ i). (a.number, ap (colour_at u) z ∙ p.new, la))
      (λ (ne : k ≡ i → ⊥). let d = h.done k (omega arith) in (d.0, p.old k ne ∙ d.1, d.2))
      (cases_eq k i);
  rest = λ k l. p.old k (omega arith) ∙ h.rest k (omega arith);
}

module _ (ps : List (ℕ × ℕ)) (w u : Colouring) (e : End) (a b : Colour) (r : Exchanged ps w u e a b) where
  pub insert_stays : (k : ℕ) → Bare w k → Bare u k
  unfolding Exchanged Bare
  insert_stays k bare = swap_bare (end_at ps) (colour_at w) (colour_at u) e.side e.number a.number b.number k r bare

  pub insert_free : (i : ℕ) (l : End) → e.side ≡ Right → Stands ps i e → l.side ≡ Left → Stands ps i l → FreeAt ps w l a → FreeFor ps u i a
  unfolding Exchanged Stands FreeAt FreeFor
  insert_free i l sr er sl el free =
      free_after (end_at ps) (colour_at w) (colour_at u) i a.number b.number (rw (el, sl) at free) (rw (er, sr) at r)

  pub insert_kept : (c i : ℕ) → Partly c i w → a.number < c → b.number < c → Partly c i u
  unfolding Exchanged
  insert_kept c i h la lb = record {
    done = λ k l.
        ⊎_elim
        (λ (z : colour_at u k ≡ colour_at w k). let d = h.done k l in (d.0, z ∙ d.1, d.2))
        (λ m. ⊎_elim (λ (z : colour_at u k ≡ Some a.number). (a.number, z, la)) (λ (z : colour_at u k ≡ Some b.number). (b.number, z, lb)) m.1)
        (r.kept k);
    rest = λ k l. swap_bare (end_at ps) (colour_at w) (colour_at u) e.side e.number a.number b.number k r (h.rest k l);
  }

pub ruleset inserting = (insert_bare, insert_more, insert_stays, insert_free, insert_kept)

-- no line has a colour yet
pub start_consistent : (ps : List (ℕ × ℕ)) (w : Colouring) → Empty w → Consistent ps w
unfolding Consistent
start_consistent ps w h = record {
  within = λ k a c. absurd (none_some (colour_at w k) a (h.0 k) c);
  agrees = record {
    slot = λ s k a c. absurd (none_some (colour_at w k) a (h.0 k) c);
    line = λ s v a k lv la t. absurd (none_some (line_at w s v a) k (h.1 (record { side = s; number = v; inside = lv }) (record { number = a; low = la })) t);
  };
}

pub start_partly : (w : Colouring) (c : ℕ) → Empty w → Partly c 0 w
start_partly w c h = record { done = λ k l. absurd (omega arith); rest = λ k l. h.0 k }

pub ruleset starting = (start_consistent, start_partly)
