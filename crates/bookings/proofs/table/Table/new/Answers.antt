-- The counts of no transfer.
use Rattle.std.proofs.Common.{rules}
use Rattle.bookings.proofs.Empty.{none_counted}
use Rattle.bookings.proofs.table.Table.new.Goals as goal

pub invariant_of-result-clause-counted : goal.invariant_of-result-clause-counted
invariant_of-result-clause-counted c = none_counted c.in_ok-live.live.items _ _ (search rules) c.in_ok-loads.ensures.sent c.in_ok-loads.ensures.received
