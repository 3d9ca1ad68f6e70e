-- The transfers up to here are counted.
use Rattle.bookings.proofs.Largest.{Seen}
use Rattle.bookings.proofs.table.Table.count_all.Given as goal

abbrev pub invariant-loop-booking : goal.invariant-loop-booking
invariant-loop-booking l = Seen l.self.live.items l.booking-index l.sent l.received l.most
