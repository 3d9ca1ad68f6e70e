-- One line more gets the colour of its half.
use Rattle.std.proofs.Common.{◌∙◌, arith}
use Rattle.euler.specs.Pairs.{at}
use Rattle.euler.specs.Walks.{bit}
use Rattle.euler.proofs.Counting.{colour_more}
use Rattle.euler.proofs.halves.Placement.tell.Goals as goal

pub loop-k-preserved : goal.loop-k-preserved
loop-k-preserved c =
    let m = colour_more c.loop-k.lines c.loop-k.k _ (λ j. bit (at c.args.self.now.halves.now j)) (omega arith) c.colour_of-line.ensures c.loop-k.invariant.1 in
    (m.0 ∙ c.loop-k.invariant.0, m.1)
