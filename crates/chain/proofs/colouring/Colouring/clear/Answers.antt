-- One line more is gone.
use Rattle.std.proofs.Common.{◌<◌, arith}
use Rattle.chain.proofs.Moving.{clear_more}
use Rattle.chain.proofs.colouring.Colouring.clear.Goals as goal

pub loop-k-preserved : goal.loop-k-preserved
loop-k-preserved c =
    let low : c.loop-k.k < 1024 = omega (arith, c.loop-k-test.true, c.args.bounded.few) in
    clear_more _ _ _ _ _ _ _ _ _ c.loop-k.invariant c.vacate.ensures c.vacate-in-loop-k.ensures c.paint.ensures c.end_of.ensures.side c.end_of.ensures.stands c.end_of-in-loop-k.ensures.side c.end_of-in-loop-k.ensures.stands low
