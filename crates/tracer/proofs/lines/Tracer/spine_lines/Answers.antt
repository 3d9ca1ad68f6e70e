-- A line that was not answered.
use Rattle.std.proofs.Common.{string_bytes}
use Rattle.std.proofs.lemmas.Result.{err_from_is_err_and}
use Rattle.std.specs.declared.alloc.Global.{Global}
use Rattle.tracer.proofs.Steps.{lines_failed}
use Rattle.tracer.proofs.lines.Tracer.spine_lines.Goals as goal

pub returns-in_err-line : goal.returns-in_err-line
returns-in_err-line g c =
    let sizes = c.args.self.now.sizes in
    let k = g.K.Cabinet.meaning sizes.m sizes.n in
    let p = err_from_is_err_and c.from_residual-in_err-line.result c.from_residual-in_err-line.ensures.1 in
    rw (p.1, p.2)
    (lines_failed k sizes.m sizes.n c.args.transfer.sender c.args.transfer.receiver c.in_ok-check_transfer.ensures (string_bytes {Z = Global}) _ c.loop-spine.spine c.loop-spine-test.true c.in_err-line.ensures)
