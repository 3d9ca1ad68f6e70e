-- Ends that none of the lines from here on has are empty again.
use Rattle.std.proofs.Common.{drop}
use Rattle.lines.specs.declared.line.Side.TheVariants.{Left, Right}
use Rattle.lines.specs.Lines.{ends}
use Rattle.lines.specs.Degrees.{Cleared}
use Rattle.lines.proofs.degrees.uncount.Given as goal

abbrev pub invariant-loop-line : goal.invariant-loop-line
invariant-loop-line l =
    let ps = drop l.line-index (ends l.bounded.lines.now) in
    Cleared Left ps l.left × Cleared Right ps l.right
