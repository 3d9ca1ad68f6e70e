-- The colours go into the lines, and then out of the work space.
use Rattle.std.proofs.Common.{◌≡◌, ℕ, ◌+◌, ◌<◌, ◌≤◌, List, length, get_or, set, Some, None, vec_items, ◌⊎◌, inl, inr, Option, sym, refl, ap, ◌∙◌, ⊎_elim, arith}
use Rattle.std.proofs.lemmas.List.{get_or-set_same, get_or-set_other, map-set}
use Rattle.std.proofs.lemmas.Bool.{cases_eq}
use Rattle.lines.specs.declared.line.Line.{Line}
use Rattle.lines.specs.declared.line.Side.{Side}
use Rattle.lines.specs.declared.line.Side.TheVariants.{Left, Right}
use Rattle.lines.specs.Lines.{ends, colours, end_at}
use Rattle.lines.specs.Arrangers.{Arranged}
use Rattle.lines.proofs.Places.{length_ends, length_colours, same_length, ends_set}
use Rattle.chain.specs.declared.colour.Colour.{Colour}
use Rattle.chain.specs.declared.end.End.{End}
use Rattle.chain.specs.declared.colouring.Colouring.{Colouring}
use Rattle.chain.specs.Slots.{line_in}
use Rattle.chain.specs.Colourings.{no_slots, place_of, number_of, colour_at, line_at, Empty, Consistent, Stands, Stored, Vacated, Partly, Copied, Cleared}
use Rattle.chain.proofs.Paths.{none_some, none_or_some, some_same}
use Rattle.chain.proofs.Steps.{facts_apart, stored_painted}

-- a line where there is none
abbrev pub blank : Line
blank = record { left = 0; right = 0; colour = 0 }

-- the line k with the colour a
abbrev pub with_colour : List Line → ℕ → ℕ → Line
with_colour ls k a = record { left = (get_or ls k blank).left; right = (get_or ls k blank).right; colour = a }

pub set_ends : (ls : List Line) (k a : ℕ) → k < length ls → ends (set ls k (with_colour ls k a)) ≡ ends ls
set_ends ls k a l = ends_set ls k blank (with_colour ls k a) l refl

pub set_colours : (ls : List Line) (k a : ℕ) → colours (set ls k (with_colour ls k a)) ≡ set (colours ls) k a
set_colours ls k a = map-set (λ (x : Line). x.colour) ls k (with_colour ls k a)

-- the line k has the colour a, which goes into the lines
pub copy_some : (w : Colouring) (k a : ℕ) (ls : List Line) → Copied w k ls → k < length ls → colour_at w k ≡ Some a → Copied w (k + 1) (set ls k (with_colour ls k a))
copy_some w k a ls m l has j b lj h =
    ap (λ (cs : List ℕ). get_or cs j 0) (set_colours ls k a) ∙
    ⊎_elim
    (λ (z : j ≡ k).
    ap (λ i. get_or (set (colours ls) k a) i 0) z ∙ get_or-set_same (colours ls) k a 0 (omega (arith, length_colours ls)) ∙ some_same (colour_at w k) a b has (ap (colour_at w) (sym z) ∙ h))
    (λ (ne : j ≡ k → ⊥). get_or-set_other (colours ls) k j a 0 ne ∙ m j b (omega arith) h)
    (cases_eq j k)

-- the line k has no colour
pub copy_none : (w : Colouring) (k : ℕ) (ls : List Line) → Copied w k ls → colour_at w k ≡ None → Copied w (k + 1) ls
copy_none w k ls m bare j b lj h =
    ⊎_elim (λ (z : j ≡ k). absurd (none_some (colour_at w k) b bare (ap (colour_at w) (sym z) ∙ h))) (λ (ne : j ≡ k → ⊥). m j b (omega arith) h) (cases_eq j k)

-- all lines had colours, and all are in the lines
module _ (c : ℕ) (ls ms : List Line) (w : Colouring) (same : ends ms ≡ ends ls) (h : Consistent (ends ls) w) (b : Partly c (length ls) w) (m : Copied w (length ls) ms) where
  colour_of : (k : ℕ) → k < length ls → (colour_at w k ≡ Some (get_or (colours ms) k 0)) × (get_or (colours ms) k 0 < c)
  colour_of k l =
      let d = b.done k l in
      let e = m k d.0 l d.1 in
      (d.1 ∙ ap Some (sym e), rw e d.2)

  pub arranged : Arranged c ls ms
  unfolding Consistent
  arranged =
      let n : length (ends ms) ≡ length ls = length_ends ms ∙ same_length ls ms same in
      record {
        same = same;
        proper = record {
          each = length_colours ms ∙ sym (length_ends ms);
          below = λ k l. (colour_of k (omega arith)).1;
          differ = λ s i j li lj ne ee cc.
              let p = (colour_of i (omega arith)).0 in
              let q = (colour_of j (omega arith)).0 in
              ne (facts_apart (ends ls) w h s i j (get_or (colours ms) i 0) p (q ∙ ap Some (sym cc)) (rw same at ee));
        };
      }

pub clear_start : (ps : List (ℕ × ℕ)) (w : Colouring) → Cleared ps w w 0
clear_start ps w = record { bare = λ j l. absurd (omega arith); vacant = λ j l. absurd (omega arith); colours = λ j. inr refl; lines = λ s v a l. inr refl }

vacated : (w u : Colouring) (e : End) → Vacated w u e → (s : Side) (v a : ℕ) → a < 64 → (line_at u s v a ≡ None) ⊎ (line_at u s v a ≡ line_at w s v a)
vacated w u e h s v a la =
    ⊎_elim
    (λ (z : place_of s v ≡ place_of e.side e.number). inl (ap (λ i. line_in (get_or (vec_items u.slots) i no_slots) a) z ∙ h.gone a la))
    (λ (ne : place_of s v ≡ place_of e.side e.number → ⊥). inr (h.old s v a ne))
    (cases_eq (place_of s v) (place_of e.side e.number))

-- what had no line has none
still : (o p : Option ℕ) → (p ≡ None) ⊎ (p ≡ o) → o ≡ None → p ≡ None
still o p h e = ⊎_elim (λ (z : p ≡ None). z) (λ (z : p ≡ o). z ∙ e) h

-- the line k goes too: z is u after the writes at both of its ends and at the line
module _ (ps : List (ℕ × ℕ)) (w u x y z : Colouring) (k : ℕ) (l r : End) (n : k < 1024) (c : Cleared ps w u k) (vl : Vacated u x l) (vr : Vacated x y r) (st : Stored y z k None)
    (sl : l.side ≡ Left) (el : l.number ≡ end_at ps l.side k) (sr : r.side ≡ Right) (er : r.number ≡ end_at ps r.side k) where
  same_lines : (s : Side) (v a : ℕ) → line_at z s v a ≡ line_at y s v a
  same_lines s v a = ap (λ t. line_in (get_or (vec_items t) (place_of s v) no_slots) a) st.slots

  fewer : (s : Side) (v a : ℕ) → a < 64 → (line_at z s v a ≡ None) ⊎ (line_at z s v a ≡ line_at u s v a)
  fewer s v a la =
      ⊎_elim
      (λ (e : line_at y s v a ≡ None). inl (same_lines s v a ∙ e))
      (λ (e : line_at y s v a ≡ line_at x s v a). ⊎_elim (λ (f : line_at x s v a ≡ None). inl (same_lines s v a ∙ e ∙ f)) (λ (f : line_at x s v a ≡ line_at u s v a). inr (same_lines s v a ∙ e ∙ f)) (vacated u x l vl s v a la))
      (vacated x y r vr s v a la)

  gone_here : (s : Side) (a : ℕ) → a < 64 → line_at z s (end_at ps s k) a ≡ None
  gone_here Left a la =
      same_lines Left (end_at ps Left k) a ∙ still (line_at x Left (end_at ps Left k) a) (line_at y Left (end_at ps Left k) a) (vacated x y r vr Left (end_at ps Left k) a la) (rw (el, sl) at (vl.gone a la))
  gone_here Right a la = same_lines Right (end_at ps Right k) a ∙ (rw (er, sr) at (vr.gone a la))

  clear_step : Cleared ps w z (k + 1)
  clear_step =
      let p = stored_painted y z k None n st in
      let was : (j : ℕ) → colour_at y j ≡ colour_at u j = λ j. ap (λ t. number_of (get_or (vec_items t) j None)) (vr.colours ∙ vl.colours) in
      record {
        bare = λ j lj. ⊎_elim (λ (q : j ≡ k). ap (colour_at z) q ∙ p.new) (λ (ne : j ≡ k → ⊥). p.old j ne ∙ was j ∙ c.bare j (omega arith)) (cases_eq j k);
        vacant = λ j lj s a la.
            ⊎_elim
            (λ (q : j ≡ k). ap (λ i. line_at z s (end_at ps s i) a) q ∙ gone_here s a la)
            (λ (ne : j ≡ k → ⊥). still (line_at u s (end_at ps s j) a) (line_at z s (end_at ps s j) a) (fewer s (end_at ps s j) a la) (c.vacant j (omega arith) s a la))
            (cases_eq j k);
        colours = λ j. ⊎_elim (λ (q : j ≡ k). inl (ap (colour_at z) q ∙ p.new)) (λ (ne : j ≡ k → ⊥). ⊎_elim (λ (e : colour_at u j ≡ None). inl (p.old j ne ∙ was j ∙ e)) (λ (e : colour_at u j ≡ colour_at w j). inr (p.old j ne ∙ was j ∙ e)) (c.colours j)) (cases_eq j k);
        lines = λ s v a la. ⊎_elim (λ (e : line_at z s v a ≡ None). inl e) (λ (e : line_at z s v a ≡ line_at u s v a). ⊎_elim (λ (f : line_at u s v a ≡ None). inl (e ∙ f)) (λ (f : line_at u s v a ≡ line_at w s v a). inr (e ∙ f)) (c.lines s v a la)) (fewer s v a la);
      }

pub clear_more : (ps : List (ℕ × ℕ)) (w u x y z : Colouring) (k : ℕ) (l r : End) → Cleared ps w u k → Vacated u x l → Vacated x y r → Stored y z k None → l.side ≡ Left → Stands ps k l → r.side ≡ Right → Stands ps k r → k < 1024 → Cleared ps w z (k + 1)
unfolding Stands
clear_more ps w u x y z k l r c vl vr st sl el sr er n = clear_step ps w u x y z k l r n c vl vr st sl el sr er

-- where all lines are gone the work space is empty
pub clear_all : (ls : List Line) (w u : Colouring) (k : ℕ) → Consistent (ends ls) w → Cleared (ends ls) w u k → length ls ≤ k → Empty u
unfolding Consistent
clear_all ls w u k h c all = (λ j. bare j, λ e a. vacant e a)
  where
    bare : (j : ℕ) → colour_at u j ≡ None
    bare j = ⊎_elim (still (colour_at w j) (colour_at u j) (c.colours j)) (λ q. c.bare j (omega (arith, h.within j q.0 q.1, length_ends ls))) (none_or_some (colour_at w j))

    vacant : (e : End) (a : Colour) → line_at u e.side e.number a.number ≡ None
    vacant e a =
        ⊎_elim
        (still (line_at w e.side e.number a.number) (line_at u e.side e.number a.number) (c.lines e.side e.number a.number a.low))
        (λ q.
        let m = h.agrees.line e.side e.number a.number q.0 e.inside a.low q.1 in
        ap (λ v. line_at u e.side v a.number) (sym m.0) ∙ c.vacant q.0 (omega (arith, h.within q.0 a.number m.1, length_ends ls)) e.side a.number a.low)
        (none_or_some (line_at w e.side e.number a.number))

pub ruleset clearing = (clear_start, clear_all)
