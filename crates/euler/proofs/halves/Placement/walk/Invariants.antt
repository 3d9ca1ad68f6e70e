-- Where the walk stands; with each step fewer lines are in no half.
use Rattle.std.proofs.Common.{◌≡◌, length}
use Rattle.euler.specs.Pairs.{at, partner}
use Rattle.euler.proofs.Walking.{Walking, unplaced}
use Rattle.euler.proofs.halves.Placement.walk.Given as goal

abbrev pub invariant-loop-next : goal.invariant-loop-next
invariant-loop-next l = record {
  partners : l.self.partners.now ≡ l.initial.self.partners.now;
  walking : Walking (length l.initial.self.partners.now) (partner l.initial.self.partners.now) (at l.initial.self.halves.now) (at l.self.halves.now) l.initial.walk.line l.initial.walk.side l.walk.line l.walk.side l.walk.half;
}

abbrev pub decreases-loop-next : goal.decreases-loop-next
decreases-loop-next l = unplaced l.self.halves.now
