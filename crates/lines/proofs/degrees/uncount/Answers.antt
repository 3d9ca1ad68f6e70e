-- Each line empties the counts of both its ends.
use Rattle.std.proofs.Common.{refl, ◌∙◌, arith}
use Rattle.lines.specs.declared.line.Side.TheVariants.{Left, Right}
use Rattle.lines.specs.Lines.{ends}
use Rattle.lines.proofs.Places.{length_ends}
use Rattle.lines.proofs.Counting.{here, cleared_more, counts_cleared, all_cleared}
use Rattle.lines.proofs.degrees.uncount.Goals as goal

pub loop-line-init : goal.loop-line-init
loop-line-init c = (counts_cleared Left (ends c.args.bounded.lines.now) c.args.left.now c.requires.left, counts_cleared Right (ends c.args.bounded.lines.now) c.args.right.now c.requires.right)

pub bounds-left-line : goal.bounds-left-line
bounds-left-line c = (here Left c.args.bounded.lines.now c.loop-line.line-index _ _ c.loop-line.left refl c.args.bounded.inside c.loop-line-test.true (c.loop-line.auto.left ∙ c.requires.left_room)).room

pub bounds-right-line : goal.bounds-right-line
bounds-right-line c = (here Right c.args.bounded.lines.now c.loop-line.line-index _ _ c.loop-line.right refl c.args.bounded.inside c.loop-line-test.true (c.loop-line.auto.right ∙ c.requires.right_room)).room

pub loop-line-preserved : goal.loop-line-preserved
loop-line-preserved c =
    let ps = ends c.args.bounded.lines.now in
    let i = c.loop-line.line-index in
    let l = here Left c.args.bounded.lines.now i _ _ c.loop-line.left refl c.args.bounded.inside c.loop-line-test.true (c.loop-line.auto.left ∙ c.requires.left_room) in
    let r = here Right c.args.bounded.lines.now i _ _ c.loop-line.right refl c.args.bounded.inside c.loop-line-test.true (c.loop-line.auto.right ∙ c.requires.right_room) in (
      cleared_more Left ps c.loop-line.left i _ l.within l.at l.room c.loop-line.invariant.0,
      cleared_more Right ps c.loop-line.right i _ r.within r.at r.room c.loop-line.invariant.1,
    )

pub returns : goal.returns
returns c =
    let ps = ends c.args.bounded.lines.now in
    record {
      left = all_cleared Left ps c.loop-line.left c.loop-line.line-index (omega (arith, length_ends c.args.bounded.lines.now, c.loop-line-test.false)) c.loop-line.invariant.0;
      right = all_cleared Right ps c.loop-line.right c.loop-line.line-index (omega (arith, length_ends c.args.bounded.lines.now, c.loop-line-test.false)) c.loop-line.invariant.1;
    }
