-- Lines that are put into two halves, so that partners are in different ones. The halves are false and true.
use Rattle.std.specs.Prelude.{◌≡◌, ℕ, ◌<◌, Bool, true, false, not, ◌≢◌, List, is_some, Some, None, Option, slice_set}
use Rattle.lines.specs.declared.line.Side.{Side}
use Rattle.lines.specs.Lines.{other}
use Rattle.euler.specs.declared.walk.Walk.{Walk}
use Rattle.euler.specs.Pairs.{at}

-- a line is the partner of its partner, and not its own
abbrev pub Symmetric : ℕ → (Side → ℕ → Option ℕ) → Type 0
Symmetric n p = (t : Side) (k j : ℕ) → p t k ≡ Some j → (j < n) × (j ≢ k) × (p t j ≡ Some k)

-- the partner of line j on side t, if any, is in the half other than b
abbrev pub Opposed : (Side → ℕ → Option ℕ) → (ℕ → Option Bool) → Bool → Side → ℕ → Type 0
Opposed p h b t j = (q : ℕ) → p t j ≡ Some q → h q ≡ Some (not b)

-- the partners of each line in a half are in the other half
abbrev pub Settled : (Side → ℕ → Option ℕ) → (ℕ → Option Bool) → Type 0
Settled p h = (t : Side) (j : ℕ) (b : Bool) → h j ≡ Some b → Opposed p h b t j

-- but perhaps those of line x
abbrev pub SettledBut : ℕ → (Side → ℕ → Option ℕ) → (ℕ → Option Bool) → Type 0
SettledBut x p h = (t : Side) (j : ℕ) (b : Bool) → j ≢ x → h j ≡ Some b → Opposed p h b t j

-- 1 where a line in this half, if any, is not in the half true, else 0
abbrev pub waits : Option Bool → ℕ
waits (Some true) = 0
waits (Some false) = 1
waits None = 1

-- how many partners of a line on one side, 0 or 1, wait for the half true
abbrev pub waiting : (ℕ → Option Bool) → Option ℕ → ℕ
waiting h None = 0
waiting h (Some q) = waits (h q)

-- the lines before line x are in halves
abbrev pub PlacedBefore : ℕ → List (Option Bool) → Type 0
PlacedBefore x hs = (j : ℕ) → j < x → is_some (at hs j) ≡ true

-- line x is put into the half false, the lines before it are in halves, and the partners of all lines but x are settled
pub record Begun (x : ℕ) (p : Side → ℕ → Option ℕ) (hs : List (Option Bool)) : Type 0 where
  pub start : at hs x ≡ Some false
  pub settled : SettledBut x p (at hs)
  pub before : PlacedBefore x hs

-- a step of a walk leads to the partner that is in no half yet, puts it into the other half and turns to its other side
pub record Stepped (q : Option ℕ) (w next : Walk) (before after : List (Option Bool)) : Type 0 where
  pub to : q ≡ Some next.line
  pub fresh : at before next.line ≡ None
  pub half : next.half ≡ not w.half
  pub side : next.side ≡ other w.side
  pub put : after ≡ slice_set before next.line (Some (not w.half))

-- a walk ends at a line with no partner or one that is in a half already
pub record Ended (q : Option ℕ) (before after : List (Option Bool)) : Type 0 where
  pub met : (j : ℕ) → q ≡ Some j → at before j ≢ None
  pub kept : after ≡ before

-- the next place of a walk, if it goes on
abbrev pub Steps : Option Walk → Option ℕ → Walk → List (Option Bool) → List (Option Bool) → Type 0
Steps (Some next) q w before after = Stepped q w next before after
Steps None q w before after = Ended q before after

-- the colour that tells a half
abbrev pub bit : Option Bool → ℕ
bit (Some true) = 1
bit (Some false) = 0
bit None = 0
