-- What a caller of an arranger is told of a refusal: its number, and the end that it is about, where it is about one.
use Rattle.std.specs.Prelude.{ℕ, zero, suc, ◌+◌, Bool, cond, ◌||◌, List, length, Some, None, Ok, Err, Option, Result, nat_lt}
use Rattle.std.specs.List.{list_any}
use Rattle.lines.specs.declared.line.Line.{Line}
use Rattle.lines.specs.declared.line.Side.{Side}
use Rattle.lines.specs.declared.line.Side.TheVariants.{Left, Right}
use Rattle.lines.specs.declared.refusal.ArrangeRefusal.{ArrangeRefusal}
use Rattle.lines.specs.declared.refusal.ArrangeRefusal.TheVariants.{NotServed, TooManyLines, EndAbove, Crowded}
use Rattle.lines.specs.Lines.{ends, degree}

pub record Refusal : Type 0 where
  pub number : ℕ
  pub end : Option (Side × ℕ)

-- every case of the code's enum, by its number and its values
abbrev pub refusal : ArrangeRefusal → Refusal
refusal NotServed = record { number = 23; end = None }
refusal TooManyLines = record { number = 24; end = None }
refusal EndAbove = record { number = 25; end = None }
refusal (Crowded s v) = record { number = 26; end = Some (s, v) }

-- what a call's answer says of a refusal
abbrev pub told : {A : Type 0} → Result A ArrangeRefusal → Option Refusal
told (Ok a) = None
told (Err e) = Some (refusal e)

-- some end is above 511
abbrev pub end_above : List Line → Bool
end_above ls = list_any (λ l. nat_lt 511 l.left || nat_lt 511 l.right) ls

-- the refusal of lines that is due whatever the colours, or none: 24 for too many lines, else 25 for an end that is too
-- high
abbrev pub bounds_refusal : List Line → Option Refusal
bounds_refusal ls =
    cond (nat_lt 1024 (length ls)) (Some (record { number = 24; end = None }))
    (cond (end_above ls) (Some (record { number = 25; end = None })) None)

-- the lowest of the n numbers from v on at which f is above c
unfoldable pub lowest_above : (ℕ → ℕ) → ℕ → ℕ → ℕ → Option ℕ
lowest_above f c v zero = None
lowest_above f c v (suc n) = cond (nat_lt c (f v)) (Some v) (lowest_above f c (v + 1) n)

-- the lowest end of a side, of the 512 that there are, in which more than c lines stand
abbrev pub crowded : Side → ℕ → List (ℕ × ℕ) → Option ℕ
crowded s c ps = lowest_above (λ v. degree s v ps) c 0 512

-- the refusal of crowded ends, by the lowest on the left and the lowest on the right: left goes first
abbrev pub crowd_refusal : Option ℕ → Option ℕ → Option Refusal
crowd_refusal (Some v) r = Some (record { number = 26; end = Some (Left, v) })
crowd_refusal None (Some v) = Some (record { number = 26; end = Some (Right, v) })
crowd_refusal None None = None

-- the refusal that is due, or none: 23 where the count is not served, else 24 for too many lines, else 25 for an end that
-- is too high, else 26 for a crowded end
abbrev pub refusal_due : Bool → ℕ → List Line → Option Refusal
refusal_due served c ls =
    cond served
    (cond (nat_lt 1024 (length ls)) (Some (record { number = 24; end = None }))
    (cond (end_above ls) (Some (record { number = 25; end = None }))
    (crowd_refusal (crowded Left c (ends ls)) (crowded Right c (ends ls)))))
    (Some (record { number = 23; end = None }))
