-- A transfer is refused, or booked.
use Rattle.std.proofs.Common.{◌∙◌}
use Rattle.std.proofs.lemmas.Result.{err_from_is_err_and}
use Rattle.bookings.specs.Refusals.{booking_refusal}
use Rattle.book.specs.Books.{drafted}
use Rattle.book_exports.proofs.Turning.{book_more, book_fails}
use Rattle.book_exports.proofs.turns.book_all.Goals as goal

pub returns-in_err-book : goal.returns-in_err-book
returns-in_err-book g c =
    let p = err_from_is_err_and c.from_residual.result c.from_residual.ensures.1 in
    rw (p.1, p.2)
    (c.loop-transfer.invariant
    ∙ book_fails (drafted c.loop-transfer.draft) c.args.transfers.now c.loop-transfer.transfer-index c.loop-transfer-test.true (booking_refusal c.in_err-book.field-0.0) c.in_err-book.ensures.answer)

pub loop-transfer-preserved : goal.loop-transfer-preserved
loop-transfer-preserved g c =
    c.loop-transfer.invariant
    ∙ book_more (drafted c.loop-transfer.draft) c.args.transfers.now c.loop-transfer.transfer-index c.loop-transfer-test.true (drafted c.book.new.self) c.in_ok-book.field-0 c.in_ok-book.ensures.answer c.in_ok-book.ensures.book
