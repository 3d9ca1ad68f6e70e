-- Lines as bytes, five to a line, and what becomes of the bytes.
use Rattle.std.specs.Prelude.{◌≡◌, ℕ, ◌+◌, ◌*◌, ◌/◌, ◌%◌, ◌<◌, ◌≤◌, Bool, cond, ◌≢◌, List, map, length, Some, None, Ok, Err, Option, Result, ◌==◌, slice_index}
use Rattle.std.specs.List.{range_with_len}
use Rattle.lines.specs.declared.line.Line.{Line}
use Rattle.lines.specs.declared.refusal.ArrangeRefusal.{ArrangeRefusal}
use Rattle.lines.specs.Refusals.{Refusal, refusal, refusal_due}
use Rattle.lines.specs.Arrangers.{Arranged}
use Rattle.failure.specs.declared.Failure.{Failure}
use Rattle.failure.specs.declared.Failure.TheVariants.{Refused, OutOfMemory}
use Rattle.exports.specs.declared.error.BytesRefusal.{BytesRefusal}
use Rattle.exports.specs.declared.error.BytesRefusal.TheVariants.{BrokenLine, Lines}

-- line i: left end and right end, each low byte first, and then the colour
abbrev pub line_at : List ℕ → ℕ → Line
line_at bs i =
    record {
      left = slice_index bs (5 * i) + slice_index bs (5 * i + 1) * 256;
      right = slice_index bs (5 * i + 2) + slice_index bs (5 * i + 3) * 256;
      colour = slice_index bs (5 * i + 4);
    }

-- all lines of the bytes, in order
abbrev pub lines_of : List ℕ → List Line
lines_of bs = map (line_at bs) (range_with_len 0 (length bs / 5))

-- the number of a refusal, and 0 for none
abbrev pub number_of : Option Refusal → ℕ
number_of None = 0
number_of (Some r) = r.number

-- the refusal that `times` calls meet: the first call decides
abbrev pub refusal_in : ℕ → Bool → ℕ → List Line → Option Refusal
refusal_in times served c ls = cond (times == 0) None (refusal_due served c ls)

-- the answer, where there is memory: 255 for bytes that are no whole lines, else the refusal's number or 0
abbrev pub answer_due : ℕ → Bool → ℕ → List ℕ → ℕ
answer_due times served c bs =
    cond (length bs % 5 == 0) (number_of (refusal_in times served c (lines_of bs))) 255

-- lines that were arranged some times over: not at all, or properly
pub record Repeated (times c : ℕ) (before after : List Line) : Type 0 where
  pub idle : times ≡ 0 → after ≡ before
  pub arranged : 1 ≤ times → Arranged c before after

-- what calls answered r do to lines: refused lines stay as they were
abbrev pub Repeats : {A : Type 0} → Result A ArrangeRefusal → ℕ → ℕ → List Line → List Line → Type 0
Repeats (Ok _) times c before after = Repeated times c before after
Repeats (Err _) times c before after = after ≡ before

-- the first i colours stand in the bytes
abbrev pub Put : ℕ → List ℕ → List ℕ → Type 0
Put i bs cs = (j : ℕ) → j < i → slice_index bs (5 * j + 4) ≡ slice_index cs j

-- no byte of an end changes
abbrev pub Kept : List ℕ → List ℕ → Type 0
Kept before after = (k : ℕ) → k % 5 ≢ 4 → slice_index after k ≡ slice_index before k

-- the lines stand in the bytes, whose ends are as they were
pub record Recoloured (ls : List Line) (before after : List ℕ) : Type 0 where
  pub lines : lines_of after ≡ ls
  pub ends : Kept before after

-- what C is told: 0 where the lines are arranged, else the number of the refusal, or 255
abbrev pub code_of : {A : Type 0} → Result A (Failure BytesRefusal) → ℕ
code_of (Ok _) = 0
code_of (Err (Refused (Lines e))) = (refusal e).number
code_of (Err (Refused BrokenLine)) = 255
code_of (Err OutOfMemory) = 255

-- no byte changes, and the bytes are whole lines that the calls meet with this refusal
pub record Untouched (times : ℕ) (served : Bool) (c : ℕ) (before after : List ℕ) (due : Option Refusal) : Type 0 where
  pub whole : length before % 5 ≡ 0
  pub refused : refusal_in times served c (lines_of before) ≡ due
  pub same : after ≡ before

-- the bytes are whole lines that are not refused; they stand there again, arranged `times` times over
pub record Rewritten (times : ℕ) (served : Bool) (c : ℕ) (before after : List ℕ) : Type 0 where
  pub whole : length before % 5 ≡ 0
  pub accepted : refusal_in times served c (lines_of before) ≡ None
  pub lines : Repeated times c (lines_of before) (lines_of after)
  pub ends : Kept before after
  pub idle : times ≡ 0 → after ≡ before

-- what an answer says of the bytes before and after; for want of memory no byte changes
abbrev pub Rewrites : {A : Type 0} → Result A (Failure BytesRefusal) → ℕ → Bool → ℕ → List ℕ → List ℕ → Type 0
Rewrites (Ok _) times served c before after = Rewritten times served c before after
Rewrites (Err (Refused BrokenLine)) times served c before after = (length before % 5 ≢ 0) × (after ≡ before)
Rewrites (Err (Refused (Lines e))) times served c before after = Untouched times served c before after (Some (refusal e))
Rewrites (Err OutOfMemory) times served c before after = (length before % 5 ≡ 0) × (after ≡ before)

-- what the code r that C is told says of the bytes before and after
pub record Outcome (times : ℕ) (served : Bool) (c : ℕ) (before after : List ℕ) (r : ℕ) : Type 0 where
  -- 255 is also told where there is no memory
  pub answer : r ≢ 255 → r ≡ answer_due times served c before
  -- where the lines are not arranged, no byte changes
  pub unchanged : r ≢ 0 → after ≡ before
  pub idle : times ≡ 0 → after ≡ before
  pub arranged : r ≡ 0 → 1 ≤ times → Arranged c (lines_of before) (lines_of after)
  pub ends : Kept before after
