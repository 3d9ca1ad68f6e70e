-- What booking all comes to is what booking the rest comes to.
use Rattle.std.proofs.Common.{◌≡◌, drop}
use Rattle.book.specs.Books.{drafted}
use Rattle.book_exports.specs.Filling.{book_all}
use Rattle.book_exports.proofs.turns.book_all.Given as goal

abbrev pub invariant-loop-transfer : goal.invariant-loop-transfer
invariant-loop-transfer g l = book_all (drafted l.initial.draft) l.transfers ≡ book_all (drafted l.draft) (drop l.transfer-index l.transfers)
