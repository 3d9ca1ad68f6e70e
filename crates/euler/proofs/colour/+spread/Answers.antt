-- Each half is coloured with half of the colours.
use Rattle.std.proofs.Common.{ap, ◌∙◌, arith}
use Rattle.lines.specs.Lines.{ends}
use Rattle.euler.specs.Spreads.{is_low, is_high}
use Rattle.euler.proofs.Weaving.{spread_one, spread_both, weave_ends, half_degrees, half_ready}
use Rattle.euler.proofs.colour.+spread.Goals as goal

pub spread-requires : goal.spread-requires
spread-requires t c =
    let s = c.in-Some.ensures.splits in
    let n = c.in-Some.ensures.count in
    let d = c.deal-low.ensures in
    let h = half_ready is_low c.args.lines.now c.halve.new.lines c.deal-low.result.0.now _ _ _ _ c.halve.ensures d.low s.0 c.requires.room d.left in
    (omega (arith, c.decreases, s), (omega (arith, h.0, c.requires.few), (h.1 c.requires.inside, (rw d.low (half_degrees _ _ _ _ _ c.halve.ensures n.0 n.1 c.requires.within).0, h.2))))

pub spread-requires-in-Some : goal.spread-requires-in-Some
spread-requires-in-Some t c =
    let s = c.in-Some.ensures.splits in
    let n = c.in-Some.ensures.count in
    let d = c.deal-low.ensures in
    let h = half_ready is_high c.args.lines.now c.halve.new.lines c.deal-low.result.1.now _ _ _ _ c.halve.ensures d.high s.1 c.requires.room d.left in
    (omega (arith, c.decreases, s), (omega (arith, h.0, c.requires.few), (h.1 c.requires.inside, (rw d.high (half_degrees _ _ _ _ _ c.halve.ensures n.0 n.1 c.requires.within).1, omega (arith, h.2, c.spread.auto.room)))))

pub returns-in-None-clause-spread : goal.returns-in-None-clause-spread
returns-in-None-clause-spread t c = spread_one c.args.lines.now _ _ _ c.in-None.ensures.one c.requires.within c.fill.ensures.ends c.fill.ensures.colours

pub returns-in-Some-clause-ends : goal.returns-in-Some-clause-ends
returns-in-Some-clause-ends t c = ap ends c.gather.ensures ∙ weave_ends c.halve.new.lines _ _ ∙ c.halve.ensures.same

pub returns-in-Some-clause-spread : goal.returns-in-Some-clause-spread
returns-in-Some-clause-spread t c =
    let d = c.deal-low.ensures in
    let f = c.in-Some.ensures.first in
    rw c.gather.ensures
    (spread_both c.halve.new.lines _ _ _ _ _ _ _ _ f.0 f.1 c.in-Some.ensures.count.0 (c.spread.ensures.ends ∙ ap ends d.low) (c.spread-in-Some.ensures.ends ∙ ap ends d.high) c.spread.ensures.spread c.spread-in-Some.ensures.spread)
