-- The tickets before low are lower, and those from high on are not.
use Rattle.std.proofs.Common.{◌-◌}
use Rattle.bookings.specs.Steps.{Split}
use Rattle.bookings.proofs.table.Table.count_below.Given as goal

abbrev pub invariant-loop-low : goal.invariant-loop-low
invariant-loop-low l = Split l.ticket l.self.live.items l.low l.high

abbrev pub decreases-loop-low : goal.decreases-loop-low
decreases-loop-low l = l.high - l.low
