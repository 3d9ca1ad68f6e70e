-- One line more gets the colour.
use Rattle.std.proofs.Common.{refl, ◌∙◌, arith}
use Rattle.euler.proofs.Counting.{colour_more}
use Rattle.euler.proofs.colour.fill.Goals as goal

pub loop-line-preserved : goal.loop-line-preserved
loop-line-preserved c =
    let m = colour_more c.loop-line.lines c.loop-line.line-index c.args.colour (λ _. c.args.colour) (omega arith) refl c.loop-line.invariant.1 in
    (m.0 ∙ c.loop-line.invariant.0, m.1)
