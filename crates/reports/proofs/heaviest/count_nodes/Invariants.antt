-- The bookings up to here are counted.
use Rattle.std.proofs.Common.{take}
use Rattle.reports.specs.Steps.{Counts, node_key}
use Rattle.reports.proofs.heaviest.count_nodes.Given as goal

abbrev pub invariant-loop-booking : goal.invariant-loop-booking
invariant-loop-booking l = Counts (node_key l.side) (take l.booking-index l.live) l.counts
