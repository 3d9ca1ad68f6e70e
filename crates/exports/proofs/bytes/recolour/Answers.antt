-- The open needs of recolour.
use Rattle.std.proofs.Common.{arith}
use Rattle.lines.proofs.Places.{same_length}
use Rattle.exports.specs.Bytes.{lines_of}
use Rattle.exports.proofs.Written.{length_lines, recoloured}
use Rattle.exports.proofs.bytes.recolour.Goals as goal

pub put_colours-requires : goal.put_colours-requires
put_colours-requires c =
    omega (arith, same_length (lines_of c.args.bytes.now) c.args.lines.now c.requires, length_lines c.args.bytes.now)

pub returns : goal.returns
returns c =
    recoloured c.args.bytes.now c.put_colours.new.bytes c.args.lines.now c.put_colours.auto.bytes c.requires c.put_colours.ensures.ends c.put_colours.ensures.colours
