-- Lines with colours, some without: what is free at an end, and the exchange of two colours along a path.
use Rattle.std.specs.Prelude.{◌≡◌, ℕ, ◌<◌, ◌⊎◌, Some, None, Option, ◌≢◌}
use Rattle.lines.specs.declared.line.Side.{Side}
use Rattle.lines.specs.Lines.{other}

-- the end of each line on each side
abbrev pub Ends : Type 0
Ends = Side → ℕ → ℕ

-- the colour of each line, where it has one
abbrev pub Colours : Type 0
Colours = ℕ → Option ℕ

-- no line with the end v on side s has the colour a
abbrev pub Free : Ends → Colours → Side → ℕ → ℕ → Type 0
Free e c s v a = (k : ℕ) → e s k ≡ v → c k ≢ Some a

-- lines with the same colour have no common end
abbrev pub Apart : Ends → Colours → Type 0
Apart e c = (s : Side) (i j a : ℕ) → c i ≡ Some a → c j ≡ Some a → e s i ≡ e s j → i ≡ j

-- d is c with the colour o, or none, at the line k
pub record Painted (c d : Colours) (k : ℕ) (o : Option ℕ) : Type 0 where
  pub new : d k ≡ o
  pub old : (j : ℕ) → (j ≢ k) → d j ≡ c j

-- d is c with the colour a at the line k and none at the line j
pub record Passed (c d : Colours) (k j a : ℕ) : Type 0 where
  pub new : d k ≡ Some a
  pub gone : d j ≡ None
  pub old : (i : ℕ) → (i ≢ k) → (i ≢ j) → d i ≡ c i

-- one of two colours
abbrev pub Among : ℕ → ℕ → Option ℕ → Type 0
Among a b o = (o ≡ Some a) ⊎ (o ≡ Some b)

-- the exchange of a and b along the path that begins at the end v: c before, d after
pub record Swap (e : Ends) (c d : Colours) (s : Side) (v a b : ℕ) : Type 0 where
  pub frees : Free e d s v a
  pub here : (x : ℕ) → (x ≢ v) → Free e c s x b → Free e d s x b
  pub there : (x : ℕ) → Free e c (other s) x a → Free e d (other s) x a
  pub kept : (k : ℕ) → (d k ≡ c k) ⊎ (Among a b (c k) × Among a b (d k))

-- u is t with y at the colour a of the end v
pub record Changed (t u : Side → ℕ → ℕ → Option ℕ) (s : Side) (v a : ℕ) (y : Option ℕ) : Type 0 where
  pub new : u s v a ≡ y
  pub old : (r : Side) (x b : ℕ) → x < 512 → (r ≡ s → x ≡ v → b ≢ a) → u r x b ≡ t r x b

-- a table t of the line that has a colour at an end tells the same as the colours c
pub record Agrees (e : Ends) (c : Colours) (t : Side → ℕ → ℕ → Option ℕ) : Type 0 where
  pub slot : (s : Side) (k a : ℕ) → c k ≡ Some a → t s (e s k) a ≡ Some k
  pub line : (s : Side) (v a k : ℕ) → v < 512 → a < 64 → t s v a ≡ Some k → (e s k ≡ v) × (c k ≡ Some a)
