-- Lines that are partners at the ends of one side.
use Rattle.std.specs.Prelude.{◌≡◌, ℕ, zero, suc, ◌+◌, ◌<◌, ◌≤◌, Bool, cond, ◌&&◌, ◌≢◌, List, Some, None, Option, ◌==◌, slice_index_or, slice_set}
use Rattle.lines.specs.declared.line.Side.{Side}
use Rattle.lines.specs.declared.line.Side.TheVariants.{Left, Right}
use Rattle.euler.specs.declared.pairs.Partners.{Partners}

-- what a table holds at a place, none past its end
abbrev pub at : {A : Type 0} → List (Option A) → ℕ → Option A
at xs k = slice_index_or xs k None

-- a table holds nothing
abbrev pub Empty : List (Option ℕ) → Type 0
Empty xs = (v : ℕ) → at xs v ≡ None

-- what a table holds is below n
abbrev pub Below : ℕ → List (Option ℕ) → Type 0
Below n xs = (v k : ℕ) → at xs v ≡ Some k → k < n

-- the table of single lines after line k came to the end v, where `found` was single
abbrev pub singles_after : Option ℕ → List (Option ℕ) → ℕ → ℕ → List (Option ℕ)
singles_after None ss v k = slice_set ss v (Some k)
singles_after (Some j) ss v k = slice_set ss v None

-- a line with no partners
abbrev pub nobody : Partners
nobody = record { left = None; right = None }

-- the partner of a line at its end on a side
abbrev pub partner_on : Side → Partners → Option ℕ
partner_on Left p = p.left
partner_on Right p = p.right

-- partners with another one on a side
abbrev pub with_partner : Side → Option ℕ → Partners → Partners
with_partner Left o p = record p { left = o }
with_partner Right o p = record p { right = o }

-- the partner of line k at its end on a side, by the table
abbrev pub partner : List Partners → Side → ℕ → Option ℕ
partner ps s k = partner_on s (slice_index_or ps k nobody)

-- the table where line k has another partner on a side
abbrev pub set_partner : Side → List Partners → ℕ → Option ℕ → List Partners
set_partner s ps k o = slice_set ps k (with_partner s o (slice_index_or ps k nobody))

-- the table of partners after line k came to an end of a side where `found` was single
abbrev pub partners_after : Side → Option ℕ → List Partners → ℕ → List Partners
partners_after s None ps k = set_partner s ps k None
partners_after s (Some j) ps k = set_partner s (set_partner s ps k (Some j)) j (Some k)

-- how many k below i pass the test
abbrev pub cnt : (ℕ → Bool) → ℕ → ℕ
cnt f zero = 0
cnt f (suc i) = cnt f i + cond (f i) 1 0

-- the line k has the end v and the colour z, for ends e and colours c
abbrev pub has : (ℕ → ℕ) → (ℕ → ℕ) → ℕ → ℕ → ℕ → Bool
has e c v z k = e k == v && c k == z

-- the first n lines have the colours 0 and 1, and partners differ
pub record Alternates (n : ℕ) (p : ℕ → Option ℕ) (c : ℕ → ℕ) : Type 0 where
  pub two : (k : ℕ) → k < n → c k < 2
  pub differ : (k j : ℕ) → k < n → p k ≡ Some j → c j ≢ c k

-- n lines are partners as p says: a line is the partner of its partner, and where partners differ in colour, the two
-- colours have shares at each end that differ by at most one
pub record Paired (n : ℕ) (e : ℕ → ℕ) (p : ℕ → Option ℕ) : Type 0 where
  pub symmetric : (k j : ℕ) → k < n → p k ≡ Some j → (j < n) × (j ≢ k) × (p j ≡ Some k)
  pub even : (c : ℕ → ℕ) → Alternates n p c → (v : ℕ) → (cnt (has e c v 0) n ≤ cnt (has e c v 1) n + 1) × (cnt (has e c v 1) n ≤ cnt (has e c v 0) n + 1)

-- each single line in the table is one of n lines and has the end at which it is noted
abbrev pub SinglesAt : ℕ → (ℕ → ℕ) → List (Option ℕ) → Type 0
SinglesAt n e ss = (v k : ℕ) → at ss v ≡ Some k → (k < n) × (e k ≡ v)
