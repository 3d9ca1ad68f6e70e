-- What an arranger does to lines and to its meter.
use Rattle.std.specs.Prelude.{◌≡◌, ℕ, ◌+◌, min, List, Ok, Err, Result}
use Rattle.lines.specs.declared.line.Line.{Line}
use Rattle.lines.specs.declared.refusal.ArrangeRefusal.{ArrangeRefusal}
use Rattle.lines.specs.Lines.{ends, colours, Proper}

-- the same lines in the same order, but for their colours, which are a proper edge colouring
pub record Arranged (c : ℕ) (before after : List Line) : Type 0 where
  pub same : ends after ≡ ends before
  pub proper : Proper c (ends after) (colours after)

-- accepted lines are arranged, refused lines unchanged
abbrev pub Arranges : {A : Type 0} → Result A ArrangeRefusal → ℕ → List Line → List Line → Type 0
Arranges (Ok _) c before after = Arranged c before after
Arranges (Err _) c before after = after ≡ before

-- a meter m after n lines more; it stops at 4,294,967,295
abbrev pub grown : ℕ → ℕ → ℕ
grown m n = min (m + n) 4294967295

-- the meter after a call that was handed n lines: it grows where they are accepted
abbrev pub meter_after : {A : Type 0} → Result A ArrangeRefusal → ℕ → ℕ → ℕ
meter_after (Ok _) n m = grown m n
meter_after (Err _) n m = m
