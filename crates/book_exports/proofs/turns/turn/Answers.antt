-- A transfer is refused, or the turn is over.
use Rattle.std.proofs.lemmas.Result.{err_from_is_err_and}
use Rattle.bookings.specs.Refusals.{booking_refusal}
use Rattle.book.specs.Books.{drafted, issued}
use Rattle.book_exports.proofs.Turning.{turn_ok, turn_err}
use Rattle.book_exports.proofs.turns.turn.Goals as goal

pub returns-in_err-seat_all : goal.returns-in_err-seat_all
returns-in_err-seat_all g c =
    let p = err_from_is_err_and c.from_residual.result c.from_residual.ensures.1 in
    rw (p.1, p.2)
    (turn_err (drafted c.args.draft) (booking_refusal c.in_err-seat_all.field-0.0) c.args.transfers.now c.in_err-seat_all.ensures)

pub returns : goal.returns
returns g c =
    turn_ok (drafted c.args.draft) (issued c.in_ok-seat_all.field-0) (drafted c.reopen-draft.result) (drafted c.cancel_all.new.draft) c.args.transfers.now c.in_ok-seat_all.ensures.0 c.reopen-draft.ensures.book c.cancel_all.ensures
