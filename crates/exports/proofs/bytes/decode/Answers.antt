-- The lines of each five bytes are the lines of the bytes.
use Rattle.std.proofs.Common.{◌≡◌, map, ap, ◌∙◌, subst, IfOk}
use Rattle.exports.specs.Bytes.{line_at}
use Rattle.exports.proofs.Written.{lines_by_five}
use Rattle.exports.proofs.bytes.decode.Goals as goal

pub returns : goal.returns
returns c =
    subst (λ ls. IfOk c.as_lines.result (λ v. v.items ≡ ls))
    (ap (map (λ cell. line_at cell 0)) c.as_chunks.ensures.front ∙ lines_by_five c.args.bytes.now)
    c.as_lines.ensures
