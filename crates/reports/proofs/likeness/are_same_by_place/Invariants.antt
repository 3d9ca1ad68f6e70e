-- The same stands at each place up to here.
use Rattle.std.proofs.Common.{ℕ, ◌<◌}
use Rattle.timetables.specs.Timetables.{seat_at}
use Rattle.bookings.specs.Model.{booking_at}
use Rattle.reports.specs.Likeness.{SameStanding}
use Rattle.reports.proofs.likeness.are_same_by_place.Given as goal

abbrev pub invariant-loop-place : goal.invariant-loop-place
invariant-loop-place l = (k : ℕ) → k < l.place → SameStanding (booking_at l.ones k) (seat_at l.one_seats k) (booking_at l.others k) (seat_at l.other_seats k)
