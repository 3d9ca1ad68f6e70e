-- The first places have their spines.
use Rattle.std.proofs.Common.{length}
use Rattle.book.proofs.Spreading.{SpreadTo}
use Rattle.book.proofs.part.Part.spread.Given as goal

abbrev pub invariant-loop-place : goal.invariant-loop-place
invariant-loop-place l = SpreadTo (length l.yielded) l.self.places.items l.self.lines.items l.initial.seats l.seats
