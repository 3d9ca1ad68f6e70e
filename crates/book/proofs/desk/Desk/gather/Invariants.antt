-- The places before the next one are gathered, with their lines.
use Rattle.std.proofs.Common.{◌≡◌, ◌-◌, length}
use Rattle.bookings.specs.Model.{transfers}
use Rattle.book.specs.Parts.{lines_at}
use Rattle.book.proofs.Linking.{Gathered, upto}
use Rattle.book.proofs.desk.Desk.gather.Given as goal

abbrev pub invariant-loop-next : goal.invariant-loop-next
invariant-loop-next l = record {
  seats : l.self.seats ≡ l.initial.self.seats;
  links : l.self.links ≡ l.initial.self.links;
  places : Gathered l.initial.self.seats.items l.round l.next l.self.part.places.items;
  lines : l.self.part.lines.items ≡ lines_at l.n (transfers l.live) l.self.part.places.items;
}

abbrev pub decreases-loop-next : goal.decreases-loop-next
decreases-loop-next l = length l.initial.self.seats.items - upto l.initial.self.seats.items l.next
