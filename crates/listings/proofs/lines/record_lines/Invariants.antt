-- The loop of `record_lines`: its invariant, and the cells that were not visited.
use Rattle.std.proofs.Common.{string_bytes}
use Rattle.image.specs.Readings.{reader, reading}
use Rattle.image.proofs.Loops.{IsPart, left_of}
use Rattle.listings.specs.Listings.{record_line}
use Rattle.listings.proofs.lines.record_lines.Given as goal

abbrev pub invariant-loop-number : goal.invariant-loop-number
invariant-loop-number l = IsPart (record_line l.texts.job.now l.texts.site.now) (reading (reader l.initial.records)) (string_bytes l.text) (reader l.records)

abbrev pub decreases-loop-number : goal.decreases-loop-number
decreases-loop-number l = left_of (reader l.records)
