-- The lines up to here are gathered.
use Rattle.std.proofs.Common.{◌≡◌, map, take, vec_items, vec_len}
use Rattle.timetables.specs.Stages.{by_node}
use Rattle.bookings.specs.Model.{transfers}
use Rattle.book.proofs.part.Part.gather_all.Given as goal

abbrev pub invariant-loop-booking : goal.invariant-loop-booking
invariant-loop-booking l = (vec_items l.self.lines ≡ map by_node (transfers (take l.booking-index l.live))) × (vec_len l.self.lines ≡ l.booking-index)
