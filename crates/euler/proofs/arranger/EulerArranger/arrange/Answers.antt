-- What follows where the lines are not refused.
use Rattle.std.proofs.Common.{sym, ◌∙◌, arith}
use Rattle.lines.proofs.Accepted.{accepted}
use Rattle.euler.specs.Powers.{served_power, served_within}
use Rattle.euler.proofs.Weaving.{proper_from}
use Rattle.euler.proofs.arranger.EulerArranger.arrange.Goals as goal

pub invariant_of-colours : goal.invariant_of-colours
invariant_of-colours c =
    let a = accepted _ _ c.args.lines.now (sym c.in_ok-check.ensures) in
    let served = sym c.is_served.ensures ∙ a.serves in
    let p = served_power c.args.c (omega arith) served in
    record { power = p.0; six = p.1; top = omega (arith, served_within c.args.c served) }

pub spread-requires-clause-inside : goal.spread-requires-clause-inside
spread-requires-clause-inside c = (accepted _ _ c.args.lines.now (sym c.in_ok-check.ensures)).inside

pub spread-requires-clause-within : goal.spread-requires-clause-within
spread-requires-clause-within c = (accepted _ _ c.args.lines.now (sym c.in_ok-check.ensures)).within

pub returns-clause-lines : goal.returns-clause-lines
returns-clause-lines c = record { same = c.spread.ensures.ends; proper = proper_from c.spread.new.lines _ c.spread.ensures.spread }
