-- No node has more transfers than there are rounds.
use Rattle.bookings.proofs.Facts.{within}
use Rattle.book.proofs.desk.Desk.seat.Goals as goal

pub seat_rounds-requires-clause-within : goal.seat_rounds-requires-clause-within
seat_rounds-requires-clause-within g c = rw (c.live.ensures, c.rounds-rounds.ensures) (within c.args.table.now)
