-- The colours of the lines up to here are in the bytes.
use Rattle.lines.specs.Lines.{colours}
use Rattle.exports.specs.Bytes.{Put, Kept}
use Rattle.exports.proofs.bytes.put_colours.Given as goal

abbrev pub invariant-loop-i : goal.invariant-loop-i
invariant-loop-i l = record { put : Put l.i l.bytes (colours l.lines); kept : Kept l.initial.bytes l.bytes }
