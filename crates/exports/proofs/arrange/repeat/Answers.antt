-- A refusal comes in the first call, so that nothing has changed.
use Rattle.std.proofs.lemmas.Result.{err_from_is_err_and}
use Rattle.std.proofs.Common.{length, Some, ◌∙◌, arith}
use Rattle.lines.specs.Refusals.{refusal}
use Rattle.exports.proofs.Repeats.{told_so, first_so, meter_first}
use Rattle.exports.proofs.arrange.repeat.Goals as goal

pub returns-in_err-arrange : goal.returns-in_err-arrange
returns-in_err-arrange g c =
    let p = err_from_is_err_and c.from_residual.result c.from_residual.ensures.1 in
    let e = c.in_err-arrange.ensures in
    let served = g.A.Arranger.served c.args.c in
    let inv = c.loop-done.invariant in
    let r = refusal c.in_err-arrange.field-0.0 in
    let first = first_so served c.args.c c.loop-done._done c.args.lines.now c.loop-done.lines inv.lines r inv.accepted e.refused in
    rw (p.1, p.2)
    (record {
      refused = told_so served c.args.c c.loop-done._done c.args.lines.now c.loop-done.lines inv.lines c.args.times (Some r) (omega arith) e.refused;
      lines = e.lines ∙ inv.lines.idle first;
      meter = e.meter ∙ meter_first _ (length c.args.lines.now) c.loop-done._done _ (g.met.A.Arranger.stops c.args.arranger.now) inv.meter first;
    })
