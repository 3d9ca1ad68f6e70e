-- The lines up to here are counted.
use Rattle.std.proofs.Common.{◌≡◌, take}
use Rattle.lines.specs.declared.line.Side.TheVariants.{Left, Right}
use Rattle.lines.specs.Lines.{ends}
use Rattle.lines.specs.Refusals.{crowded}
use Rattle.lines.specs.Degrees.{Counts}
use Rattle.lines.proofs.degrees.count.Given as goal

abbrev pub invariant-loop-line : goal.invariant-loop-line
invariant-loop-line l =
    let ps = take l.line-index (ends l.bounded.lines.now) in
    Counts Left ps l.left × (l.lowest_left ≡ crowded Left l.c ps) × Counts Right ps l.right × (l.lowest_right ≡ crowded Right l.c ps)
