-- The colours and the tables after writes at a line and at its ends.
use Rattle.std.proofs.Common.{◌≡◌, ℕ, ◌<◌, List, length, get_or, Some, None, vec_items, vec_len, Option, sym, ap, ◌∙◌, arith}
use Rattle.std.proofs.lemmas.List.{get_or_read_under, get_or-set_same, get_or-set_other}
use Rattle.lines.specs.declared.line.Side.{Side}
use Rattle.lines.specs.declared.line.Side.TheVariants.{Left, Right}
use Rattle.lines.specs.Lines.{end_at, Inside}
use Rattle.chain.specs.declared.colour.Colour.{Colour}
use Rattle.chain.specs.declared.end.End.{End}
use Rattle.chain.specs.declared.colouring.Colouring.{Colouring}
use Rattle.chain.specs.Slots.{line_in}
use Rattle.chain.specs.Exchanges.{Apart, Painted, Agrees}
use Rattle.chain.specs.Colourings.{no_slots, number_of, colour_at, line_at, place_of, Facts, Written, Stored}
use Rattle.chain.proofs.Tables.{agrees_apart, Both, both}

items_length : (w : Colouring) → length (vec_items w.colours) ≡ 1024
items_length w = sym w.colours.ok.0 ∙ w.each_line

pub facts_apart : (ps : List (ℕ × ℕ)) (w : Colouring) → Facts ps w → Apart (end_at ps) (colour_at w)
facts_apart ps w h = agrees_apart (end_at ps) (colour_at w) (line_at w) h.agrees

-- a write at a line
pub stored_painted : (w u : Colouring) (k : ℕ) (o : Option Colour) → k < 1024 → Stored w u k o → Painted (colour_at w) (colour_at u) k (number_of o)
stored_painted w u k o l h = record {
  new = ap (λ (xs : List (Option Colour)). number_of (get_or xs k None)) h.colours ∙ ap number_of (get_or-set_same (vec_items w.colours) k o None (omega (arith, items_length w)));
  old = λ j ne. ap (λ (xs : List (Option Colour)). number_of (get_or xs j None)) h.colours ∙ ap number_of (get_or-set_other (vec_items w.colours) k j o None ne);
}

pub stored_tables : (ps : List (ℕ × ℕ)) (w u : Colouring) (k : ℕ) (o : Option Colour) → Stored w u k o → Agrees (end_at ps) (colour_at u) (line_at w) → Agrees (end_at ps) (colour_at u) (line_at u)
stored_tables ps w u k o h g = record {
  slot = λ s j a c. same s (end_at ps s j) a ∙ g.slot s j a c;
  line = λ s v a j lv la e. g.line s v a j lv la (sym (same s v a) ∙ e);
}
  where
    same : (s : Side) (v a : ℕ) → line_at u s v a ≡ line_at w s v a
    same s v a = ap (λ x. line_in (get_or (vec_items x) (place_of s v) no_slots) a) h.slots

-- writes at both ends of the line k, and at the line
module _ (w x y u : Colouring) (k : ℕ) (a : Colour) (l r : End) (o : Option Colour) (z : Option ℕ) (n : k < 1024) (st : Stored y u k o) (wr : Written x y r a z) (wl : Written w x l a z) where
  same_colours : (j : ℕ) → colour_at y j ≡ colour_at w j
  same_colours j = ap (λ c. number_of (get_or (vec_items c) j None)) (wr.colours ∙ wl.colours)

  pub painted : Painted (colour_at w) (colour_at u) k (number_of o)
  painted =
      let p = stored_painted y u k o n st in
      record { new = p.new; old = λ j ne. p.old j ne ∙ same_colours j }

  pub lines_both : (ps : List (ℕ × ℕ)) → l.side ≡ Left → l.number ≡ end_at ps l.side k → r.side ≡ Right → r.number ≡ end_at ps r.side k → Both (end_at ps) (line_at w) (line_at y) k a.number z
  lines_both ps sl el sr er =
      both (end_at ps) (line_at w) (line_at x) (line_at y) k a.number z (rw (← sl) (rw (← el) l.inside))
      (rw sl at (rw el at wl.line)) (rw sr at (rw er at wr.line))

-- every coloured line has its ends inside
pub coloured_inside : (ps : List (ℕ × ℕ)) (w : Colouring) → Facts ps w → Inside ps → (s : Side) (j b : ℕ) → colour_at w j ≡ Some b → end_at ps s j < 512
coloured_inside ps w h i s j b c = i s j (h.within j b c)

-- what a read of the colours gives
pub read_colour : (w : Colouring) (k : ℕ) (o : Option Colour) → k < 1024 → o ≡ get_or (vec_items w.colours) k o → number_of o ≡ colour_at w k
read_colour w k o l r = ap number_of (get_or_read_under (vec_items w.colours) k (vec_len w.colours) o None r (omega (arith, w.each_line)) w.colours.ok.0)
