-- The lines up to here are in halves.
use Rattle.std.proofs.Common.{◌≡◌}
use Rattle.euler.specs.Pairs.{at, partner}
use Rattle.euler.specs.Walks.{Settled, PlacedBefore}
use Rattle.euler.proofs.halves.Placement.place_all.Given as goal

abbrev pub invariant-loop-x : goal.invariant-loop-x
invariant-loop-x l = record {
  partners : l.self.partners.now ≡ l.initial.self.partners.now;
  settled : Settled (partner l.initial.self.partners.now) (at l.self.halves.now);
  before : PlacedBefore l.x l.self.halves.now;
}
