-- What a caller is told of a refusal: its number.
use Rattle.std.specs.Prelude.{None}
use Rattle.crossbar.specs.Refusals.{Refusal}
use Rattle.sheets.specs.declared.refusal.SheetRefusal.{SheetRefusal}
use Rattle.sheets.specs.declared.refusal.SheetRefusal.TheVariants.{Round, Buffer}

-- every case of the code's enum, by its number
abbrev pub sheet_refusal : SheetRefusal → Refusal
sheet_refusal Round = record { number = 13; node = None }
sheet_refusal Buffer = record { number = 14; node = None }
