-- The loop of `collect`: its invariant, and the cells that were not visited.
use Rattle.image.specs.Meaning.{record_transfers}
use Rattle.image.specs.Readings.{reader, reading}
use Rattle.image.proofs.Loops.{IsPart, left_of}
use Rattle.image.proofs.transfers.collect.Given as goal

abbrev pub invariant-loop-record : goal.invariant-loop-record
invariant-loop-record l = IsPart record_transfers (reading (reader l.initial.records)) l.found.items (reader l.records)

abbrev pub decreases-loop-record : goal.decreases-loop-record
decreases-loop-record l = left_of (reader l.records)
