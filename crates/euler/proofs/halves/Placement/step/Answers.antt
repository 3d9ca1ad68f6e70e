-- The partner is one of the lines.
use Rattle.std.proofs.Common.{sym, ◌∙◌, arith}
use Rattle.euler.proofs.halves.Placement.step.Goals as goal

pub bounds-self-line : goal.bounds-self-line
bounds-self-line c = omega (arith, (c.args.self.now.symmetric c.args.walk.side c.args.walk.line c.in_ok-line.field-0 (sym c.on.ensures ∙ c.in_ok-line.was)).0, c.args.self.now.matched)

pub bounds-self-line-2 : goal.bounds-self-line-2
bounds-self-line-2 c = omega (arith, (c.args.self.now.symmetric c.args.walk.side c.args.walk.line c.in_ok-line.field-0 (sym c.on.ensures ∙ c.in_ok-line.was)).0, c.args.self.now.matched)
