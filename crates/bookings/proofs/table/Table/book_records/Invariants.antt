-- The loop of `book_records`: its invariant, and the cells that were not visited.
use Rattle.image.specs.Readings.{reader}
use Rattle.image.proofs.Loops.{left_of}
use Rattle.bookings.specs.Tables.{model}
use Rattle.bookings.proofs.Loading.{IsPart}
use Rattle.bookings.proofs.table.Table.book_records.Given as goal

abbrev pub invariant-loop-cell : goal.invariant-loop-cell
invariant-loop-cell l = IsPart (model l.initial.self) (reader l.initial.records) (model l.self) (reader l.records)

abbrev pub decreases-loop-cell : goal.decreases-loop-cell
decreases-loop-cell l = left_of (reader l.records)
