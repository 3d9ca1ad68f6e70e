-- The loop of `run_through`: its invariant, and the cells that were not visited.
use Rattle.std.proofs.Common.{[]}
use Rattle.image.specs.Readings.{reader, reading}
use Rattle.image.proofs.Collecting.{no_part}
use Rattle.image.proofs.Loops.{IsPart, left_of}
use Rattle.image.proofs.records.RecordReader.run_through.Given as goal

abbrev pub invariant-loop-number : goal.invariant-loop-number
invariant-loop-number l = IsPart no_part (reading (reader l.initial.records)) [] (reader l.records)

abbrev pub decreases-loop-number : goal.decreases-loop-number
decreases-loop-number l = left_of (reader l.records)
