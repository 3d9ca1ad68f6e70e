-- The loop of `take_back`: its invariant, and how many are still to be taken out.
use Rattle.std.proofs.Common.{◌-◌, length}
use Rattle.bookings.specs.Tables.{model}
use Rattle.bookings.proofs.Loading.{IsLess}
use Rattle.bookings.proofs.table.Table.take_back.Given as goal

abbrev pub invariant-loop-self : goal.invariant-loop-self
invariant-loop-self l = IsLess (model l.initial.self) l.count (model l.self)

abbrev pub decreases-loop-self : goal.decreases-loop-self
decreases-loop-self l = length (model l.self).live - l.count
