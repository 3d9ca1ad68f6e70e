-- The colours of the lines by node are rounds.
use Rattle.book.proofs.ByNode.{rounds_taken}
use Rattle.book.proofs.desk.Desk.seat_rounds.Goals as goal

pub returns-clause-rounds : goal.returns-clause-rounds
returns-clause-rounds g c = rounds_taken _ _ _ _ _ c.gather_all.ensures c.colour.ensures.lines c.take_rounds.ensures.seats
