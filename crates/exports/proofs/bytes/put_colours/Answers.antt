-- One colour more is in the bytes.
use Rattle.std.proofs.Common.{sym, arith}
use Rattle.lines.specs.Lines.{colours}
use Rattle.lines.proofs.Places.{colour_line}
use Rattle.exports.proofs.Written.{put_more, kept_more}
use Rattle.exports.proofs.bytes.put_colours.Goals as goal

pub loop-i-preserved : goal.loop-i-preserved
loop-i-preserved c =
    let i = c.loop-i.i in
    rw c.put_colour.ensures
    (record {
      put = put_more c.loop-i.bytes (colours c.args.lines.now) i _ (omega arith) (sym (colour_line c.args.lines.now i _ (omega arith))) c.loop-i.invariant.put;
      kept = kept_more c.args.bytes.now c.loop-i.bytes i _ c.loop-i.invariant.kept;
    })
