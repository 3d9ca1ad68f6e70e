-- The turns up to here were accepted.
use Rattle.std.proofs.Common.{◌≡◌, Ok}
use Rattle.book.specs.Books.{drafted}
use Rattle.book_exports.specs.Filling.{turns}
use Rattle.book_exports.proofs.turns.run_turns.Given as goal

abbrev pub invariant-loop-done : goal.invariant-loop-done
invariant-loop-done g l = turns l._done (drafted l.initial.draft) l.transfers ≡ Ok (drafted l.draft)
