-- A colour that is free in both palettes is free at both ends.
use Rattle.std.proofs.Common.{◌≡◌, ℕ, ◌||◌, List, IfSome, Some, None, Option, sym, refl, ◌∙◌}
use Rattle.std.proofs.lemmas.Bool.{or_parts}
use Rattle.lines.specs.declared.line.Side.TheVariants.{Left, Right}
use Rattle.chain.specs.declared.colour.Colour.{Colour}
use Rattle.chain.specs.declared.end.End.{End}
use Rattle.chain.specs.declared.slots.Slots.{Slots}
use Rattle.chain.specs.declared.colouring.Colouring.{Colouring}
use Rattle.chain.specs.Palettes.{uses, UnusedBelow}
use Rattle.chain.specs.Colourings.{Consistent, Stands, Shared, slots_at}
use Rattle.chain.proofs.Laws.{unused_free, free_both_ends}
use Rattle.chain.proofs.colouring.Colouring.shared_colour.Goals as goal

shared : (ps : List (ℕ × ℕ)) (w : Colouring) (k c p : ℕ) (l r : End) (t n : Slots) (o : Option Colour) → Consistent ps w → l.side ≡ Left → r.side ≡ Right → Stands ps k l → Stands ps k r → t ≡ slots_at w l.side l.number → n ≡ slots_at w r.side r.number
    → ((a : ℕ) → uses p a ≡ (uses t.palette.free a || uses n.palette.free a)) → UnusedBelow p c o → IfSome o (Shared ps w k c)
shared ps w k c p l r t n None h sl sr el er tl nr union m = tt
shared ps w k c p l r t n (Some a) h sl sr el er tl nr union m =
    let both = or_parts (uses t.palette.free a.number) (uses n.palette.free a.number) (sym (union a.number) ∙ m.free a refl) in
    record { below = m.below a refl; free = free_both_ends ps w k a l r sl sr el er (unused_free ps w l a t h tl both.0) (unused_free ps w r a n h nr both.1) }

pub returns : goal.returns
returns c = shared _ _ _ _ _ _ _ _ _ _ c.requires.consistent c.requires.left c.requires.right c.requires.left_stands c.requires.right_stands c.at.ensures c.at-2.ensures c.union.ensures c.free_below.ensures
