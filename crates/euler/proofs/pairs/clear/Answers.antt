-- The single line at the end of each line is forgotten.
use Rattle.std.proofs.Common.{arith}
use Rattle.euler.proofs.Counting.{end_here}
use Rattle.euler.proofs.Pairing.{cleared_more, cleared_all}
use Rattle.euler.proofs.pairs.clear.Goals as goal

pub loop-line-init : goal.loop-line-init
loop-line-init c v k z = let m = c.requires.single v k z in (omega arith, m.0, m.1)

pub bounds-single-end : goal.bounds-single-end
bounds-single-end c =
    let e = end_here c.args.bounded.lines.now c.args.side c.loop-line.line-index c.end.result _ c.args.bounded.inside c.loop-line-test.true c.end.ensures in
    omega (arith, e.1, c.requires.ends, c.loop-line.auto.single)

pub loop-line-preserved : goal.loop-line-preserved
loop-line-preserved c =
    let e = end_here c.args.bounded.lines.now c.args.side c.loop-line.line-index c.end.result _ c.args.bounded.inside c.loop-line-test.true c.end.ensures in
    cleared_more c.loop-line.line-index _ _ c.loop-line.single c.end.result e.0 (omega (arith, e.1, c.requires.ends, c.loop-line.auto.single)) c.loop-line.invariant

pub returns : goal.returns
returns c = cleared_all c.loop-line.line-index _ _ _ (omega arith) c.loop-line.invariant
