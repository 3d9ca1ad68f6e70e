-- The seats up to here are taken.
use Rattle.std.proofs.Common.{◌≡◌, map, take, vec_capacity, vec_items, vec_len}
use Rattle.book.specs.Parts.{round_seat}
use Rattle.book.proofs.rounds.take_rounds.Given as goal

abbrev pub invariant-loop-line : goal.invariant-loop-line
invariant-loop-line l =
    (vec_items l.seats ≡ map round_seat (take l.line-index l.part.lines.items)) × (vec_len l.seats ≡ l.line-index) × (vec_capacity l.seats ≡ vec_capacity l.initial.seats)
