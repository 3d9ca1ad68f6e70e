-- The work space of the chain arranger beside the lines with the ends ps. What is unfoldable stays shut in the proofs of
-- functions, which go by the laws of proofs/Laws.antt.
use Rattle.std.specs.Prelude.{◌≡◌, ℕ, ◌+◌, ◌<◌, ◌≤◌, ◌⊎◌, ◌≢◌, List, length, replicate, Some, None, vec_items, Option, option_map, slice_index, slice_index_or, slice_set}
use Rattle.lines.specs.declared.line.Line.{Line}
use Rattle.lines.specs.declared.line.Side.{Side}
use Rattle.lines.specs.declared.line.Side.TheVariants.{Left, Right}
use Rattle.lines.specs.Lines.{other, ends, colours, end_at, degree}
use Rattle.chain.specs.declared.colour.Colour.{Colour}
use Rattle.chain.specs.declared.end.End.{End}
use Rattle.chain.specs.declared.exchange.InHand.{InHand}
use Rattle.chain.specs.declared.slots.Slots.{Slots}
use Rattle.chain.specs.declared.colouring.Colouring.{Colouring}
use Rattle.chain.specs.Slots.{line_in}
use Rattle.chain.specs.Exchanges.{Free, Swap, Painted, Passed, Changed, Agrees}

-- the place of the end v of a side in the work space
abbrev pub place_of : Side → ℕ → ℕ
place_of Left v = v
place_of Right v = 512 + v

-- the number of a colour, where there is one
abbrev pub number_of : Option Colour → Option ℕ
number_of o = option_map (λ (a : Colour). a.number) o

-- the colour of the line k
abbrev pub colour_at : Colouring → ℕ → Option ℕ
colour_at w k = number_of (slice_index_or (vec_items w.colours) k None)

-- slots where there are none
abbrev pub no_slots : Slots
no_slots = record { palette = record { free = 0 }; lines = replicate 64 0 }

-- which line has which colour at the end v
abbrev pub slots_at : Colouring → Side → ℕ → Slots
slots_at w s v = slice_index_or (vec_items w.slots) (place_of s v) no_slots

-- the line that has the colour a at the end v
abbrev pub line_at : Colouring → Side → ℕ → ℕ → Option ℕ
line_at w s v a = line_in (slots_at w s v) a

-- no line has a colour, and none has one at any end
abbrev pub Empty : Colouring → Type 0
Empty w = ((k : ℕ) → colour_at w k ≡ None) × ((e : End) (a : Colour) → line_at w e.side e.number a.number ≡ None)

-- what the work space tells of lines with the ends ps is so
pub record Facts (ps : List (ℕ × ℕ)) (w : Colouring) : Type 0 where
  pub within : (k a : ℕ) → colour_at w k ≡ Some a → k < length ps
  pub agrees : Agrees (end_at ps) (colour_at w) (line_at w)

-- the same, shut
unfoldable pub Consistent : List (ℕ × ℕ) → Colouring → Type 0
Consistent ps w = Facts ps w

-- the line k stands at the end e
unfoldable pub Stands : List (ℕ × ℕ) → ℕ → End → Type 0
Stands ps k e = e.number ≡ end_at ps e.side k

-- the line k has no colour
unfoldable pub Bare : Colouring → ℕ → Type 0
Bare w k = colour_at w k ≡ None

-- no line with the end e has the colour a
unfoldable pub FreeAt : List (ℕ × ℕ) → Colouring → End → Colour → Type 0
FreeAt ps w e a = Free (end_at ps) (colour_at w) e.side e.number a.number

-- the colour a is free at both ends of the line k
unfoldable pub FreeFor : List (ℕ × ℕ) → Colouring → ℕ → Colour → Type 0
FreeFor ps w k a = (s : Side) → Free (end_at ps) (colour_at w) s (end_at ps s k) a.number

-- a colour below c that no line with the end e has
pub record FreeBelow (c : ℕ) (ps : List (ℕ × ℕ)) (w : Colouring) (e : End) (a : Colour) : Type 0 where
  pub below : a.number < c
  pub free : FreeAt ps w e a

-- some end stands in more than c lines
unfoldable pub Crowded : ℕ → List (ℕ × ℕ) → Type 0
Crowded c ps = (s : Side) × (v : ℕ) × (c < degree s v ps)

-- a colour below c that is free at both ends of the line k
pub record Shared (ps : List (ℕ × ℕ)) (w : Colouring) (k c : ℕ) (a : Colour) : Type 0 where
  pub below : a.number < c
  pub free : FreeFor ps w k a

-- the line k has the colour a at the end e
pub record Found (ls : List Line) (w : Colouring) (e : End) (a : Colour) (k : ℕ) : Type 0 where
  pub within : k < length ls
  pub stands : Stands (ends ls) k e
  pub has : colour_at w k ≡ Some a.number

-- after a write at the end e: the line o has the colour a there, or no line has it
pub record Written (w u : Colouring) (e : End) (a : Colour) (o : Option ℕ) : Type 0 where
  pub colours : u.colours ≡ w.colours
  pub line : Changed (line_at w) (line_at u) e.side e.number a.number o

-- after a write at the end e: no line has a colour there
pub record Vacated (w u : Colouring) (e : End) : Type 0 where
  pub colours : u.colours ≡ w.colours
  pub gone : (a : ℕ) → a < 64 → line_at u e.side e.number a ≡ None
  pub old : (s : Side) (v a : ℕ) → place_of s v ≢ place_of e.side e.number → line_at u s v a ≡ line_at w s v a

-- after a write at the line k: it has the colour o, or none, and the slots are as they were
pub record Stored (w u : Colouring) (k : ℕ) (o : Option Colour) : Type 0 where
  pub colours : vec_items u.colours ≡ slice_set (vec_items w.colours) k o
  pub slots : u.slots ≡ w.slots

-- the line k has another colour, or none, and the others have theirs
unfoldable pub Repainted : Colouring → Colouring → ℕ → Option Colour → Type 0
Repainted w u k o = Painted (colour_at w) (colour_at u) k (number_of o)

-- the exchange of a and b along the path that begins at the end e
unfoldable pub Exchanged : List (ℕ × ℕ) → Colouring → Colouring → End → Colour → Colour → Type 0
Exchanged ps w u e a b = Swap (end_at ps) (colour_at w) (colour_at u) e.side e.number a.number b.number

-- the line k joins the ends e and f
pub record Joins (ps : List (ℕ × ℕ)) (k : ℕ) (e f : End) : Type 0 where
  pub from : Stands ps k e
  pub to : Stands ps k f
  pub across : f.side ≡ other e.side

-- the line in hand has no colour, and its new one is free at its near end
pub record Held (ls : List Line) (w : Colouring) (hand : InHand) : Type 0 where
  pub within : hand.line < length ls
  pub joins : Joins (ends ls) hand.line hand.near hand.far
  pub bare : Bare w hand.line
  pub free : FreeAt (ends ls) w hand.near hand.new

-- the line k had the colour a at the end e; it has lost it, and a is free at both of its ends
pub record LiftedAt (ls : List Line) (w u : Colouring) (e : End) (a : Colour) (k : ℕ) : Type 0 where
  pub found : Found ls w e a k
  pub repainted : Repainted w u k None
  pub freed : FreeFor (ends ls) u k a

-- no line had the colour a at the end e, and all is as it was
pub record NoneAt (ls : List Line) (w u : Colouring) (e : End) (a : Colour) : Type 0 where
  pub free : FreeAt (ends ls) w e a
  pub same : u ≡ w

-- the line in hand has its new colour; the line that had that colour at the far end has lost it and is in hand next
pub record Stepped (ls : List Line) (w u : Colouring) (hand next : InHand) : Type 0 where
  pub found : Found ls w hand.far hand.new next.line
  pub passed : Passed (colour_at w) (colour_at u) hand.line next.line hand.new.number
  pub joins : Joins (ends ls) next.line next.near next.far
  pub near : next.near ≡ hand.far
  pub old : next.old ≡ hand.new
  pub new : next.new ≡ hand.old

-- the line in hand has its new colour, which no line had at the far end
pub record Ended (ls : List Line) (w u : Colouring) (hand : InHand) : Type 0 where
  pub free : FreeAt (ends ls) w hand.far hand.new
  pub repainted : Repainted w u hand.line (Some hand.new)

-- the first i lines have colours below c, the others none
pub record Partly (c i : ℕ) (w : Colouring) : Type 0 where
  pub done : (k : ℕ) → k < i → (a : ℕ) × (colour_at w k ≡ Some a) × (a < c)
  pub rest : (k : ℕ) → i ≤ k → colour_at w k ≡ None

-- the colours of the first k lines stand in the lines ls
abbrev pub Copied : Colouring → ℕ → List Line → Type 0
Copied w k ls = (j a : ℕ) → j < k → colour_at w j ≡ Some a → slice_index (colours ls) j ≡ a

-- u is w without the first k of the lines with the ends ps
pub record Cleared (ps : List (ℕ × ℕ)) (w u : Colouring) (k : ℕ) : Type 0 where
  pub bare : (j : ℕ) → j < k → colour_at u j ≡ None
  pub vacant : (j : ℕ) → j < k → (s : Side) (a : ℕ) → a < 64 → line_at u s (end_at ps s j) a ≡ None
  pub colours : (j : ℕ) → (colour_at u j ≡ None) ⊎ (colour_at u j ≡ colour_at w j)
  pub lines : (s : Side) (v a : ℕ) → a < 64 → (line_at u s v a ≡ None) ⊎ (line_at u s v a ≡ line_at w s v a)
