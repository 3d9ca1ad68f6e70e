-- One round more has its spines. The lemmas alone prove it: with the laws of the arranger beside them there is too much to try.
use Rattle.std.proofs.Common.{arith}
use Rattle.book.proofs.Seating.{passing}
use Rattle.book.proofs.desk.Desk.seat_spines.Goals as goal

pub loop-round-preserved : goal.loop-round-preserved
loop-round-preserved g c = grind (arith, passing)
