-- The rows of the first places are written.
use Rattle.book.specs.Books.{issued, seats}
use Rattle.sheets.specs.Sheets.{row_at}
use Rattle.sheets.proofs.Writing.{Written}
use Rattle.sheets.proofs.sheet.write_rows.Given as goal

abbrev pub invariant-loop-place : goal.invariant-loop-place
invariant-loop-place g l = Written (row_at g.K.Cabinet.meaning (issued l.timetable) (seats l.timetable)) l.places l.initial.rows l.place-index l.at l.rows
