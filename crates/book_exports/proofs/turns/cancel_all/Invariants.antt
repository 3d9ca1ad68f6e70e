-- Each cancelling leaves a transfer fewer, and nothing else changes.
use Rattle.std.proofs.Common.{◌≡◌, length}
use Rattle.book.specs.Books.{drafted}
use Rattle.book_exports.specs.Filling.{emptied}
use Rattle.book_exports.proofs.turns.cancel_all.Given as goal

abbrev pub invariant-loop-ticket : goal.invariant-loop-ticket
invariant-loop-ticket g l = emptied (drafted l.draft) ≡ emptied (drafted l.initial.draft)

abbrev pub decreases-loop-ticket : goal.decreases-loop-ticket
decreases-loop-ticket g l = length (drafted l.draft).live
