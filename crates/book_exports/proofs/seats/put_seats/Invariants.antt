-- The seats up to here are in the bytes.
use Rattle.book_exports.specs.Seats.{SeatsPut, NodesKept}
use Rattle.book_exports.proofs.seats.put_seats.Given as goal

abbrev pub invariant-loop-i : goal.invariant-loop-i
invariant-loop-i l = record { put : SeatsPut l.i l.seats l.bytes; kept : NodesKept l.initial.bytes l.bytes }
