-- Each line meets the single line at its end.
use Rattle.std.proofs.Common.{◌≡◌, length, refl, ◌∙◌, arith}
use Rattle.euler.specs.Pairs.{at}
use Rattle.euler.proofs.Counting.{end_here}
use Rattle.euler.proofs.Pairing.{pairing_met, pairing_all}
use Rattle.euler.proofs.pairs.pair.Goals as goal

pub meet-requires-clause-end : goal.meet-requires-clause-end
meet-requires-clause-end c =
    let e = end_here c.args.bounded.lines.now c.args.side c.loop-k.k c.end_place.result _ c.args.bounded.inside c.loop-k-test.true c.end_place.ensures in
    omega (arith, e.1, c.requires.ends, c.loop-k.auto.single)

pub meet-requires-clause-below : goal.meet-requires-clause-below
meet-requires-clause-below c = λ v k z. omega (arith, (c.loop-k.invariant.paired.singles v k z).0, c.requires.room, c.loop-k.auto.partners, c.loop-k-test.true)

pub loop-k-preserved : goal.loop-k-preserved
loop-k-preserved c =
    let e = end_here c.args.bounded.lines.now c.args.side c.loop-k.k c.end_place.result _ c.args.bounded.inside c.loop-k-test.true c.end_place.ensures in
    let m = pairing_met c.args.side _ c.loop-k.single c.loop-k.partners c.loop-k.k c.end_place.result c.loop-k.invariant.paired e.0
    (omega (arith, e.1, c.requires.ends, c.loop-k.auto.single)) (omega (arith, c.requires.room, c.loop-k.auto.partners, c.loop-k-test.true)) (at c.loop-k.single c.end_place.result) refl in
    record {
      paired = rw (c.meet.ensures.single, c.meet.ensures.partners) m.0;
      others = λ u. rw c.meet.ensures.partners (m.1 u ∙ c.loop-k.invariant.others u);
    }

pub returns-clause-paired : goal.returns-clause-paired
returns-clause-paired c =
    let n : c.loop-k.k ≡ length c.args.bounded.lines.now = omega arith in
    rw (← n) (pairing_all _ _ _ _ c.loop-k.invariant.paired)

pub returns-clause-single : goal.returns-clause-single
returns-clause-single c = λ v k z. let m = c.loop-k.invariant.paired.singles v k z in (omega arith, m.2)
