-- One fact of the table stands here, so that the check looks for the others one by one.
use Rattle.std.proofs.Common.{rules}
use Rattle.bookings.proofs.table.Table.fit.Goals as goal

pub invariant_of-self-clause-room : goal.invariant_of-self-clause-room
invariant_of-self-clause-room c = search rules
