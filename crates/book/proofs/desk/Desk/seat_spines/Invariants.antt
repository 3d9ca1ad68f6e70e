-- The transfers of the rounds up to here have their spines.
use Rattle.timetables.specs.Stages.{InRounds, OnSpines}
use Rattle.bookings.specs.Model.{transfers}
use Rattle.book.specs.Parts.{Linked}
use Rattle.book.proofs.Seating.{Metered}
use Rattle.book.proofs.desk.Desk.seat_spines.Given as goal

abbrev pub invariant-loop-round : goal.invariant-loop-round
invariant-loop-round g l = record {
  linked : Linked l.self.seats.items l.self.links.firsts.items l.self.links.nexts.items;
  rounds : InRounds l.rounds (transfers l.live) l.self.seats.items;
  spines : OnSpines l.n l.round (transfers l.live) l.self.seats.items;
  meter : Metered (g.B.Arranger.shows l.initial.arranger) l.round l.self.seats.items (g.B.Arranger.shows l.arranger);
}
