-- The turns before are refused, or the last one ends them.
use Rattle.std.proofs.Common.{Ok, Err}
use Rattle.std.proofs.lemmas.Result.{err_from_is_err_and, MatchResult-weaker}
use Rattle.bookings.specs.Refusals.{booking_refusal}
use Rattle.book.specs.Books.{drafted, issued, seats}
use Rattle.book_exports.specs.Filling.{emptied}
use Rattle.book_exports.proofs.Turning.{turn_done, turn_err, turns_more, last_err}
use Rattle.book_exports.proofs.Holding.{seated}
use Rattle.book_exports.proofs.turns.seat_last.Goals as goal

pub returns-in_err-draft-clause-answer : goal.returns-in_err-draft-clause-answer
returns-in_err-draft-clause-answer g c =
    let p = err_from_is_err_and c.from_residual.result c.from_residual.ensures.1 in
    rw (p.1, p.2) (last_err c.args.before (drafted c.args.draft) c.args.transfers.now (booking_refusal c.in_err-draft.field-0.0) c.in_err-draft.ensures)

pub returns-clause-answer : goal.returns-clause-answer
returns-clause-answer g c =
    let b = drafted c.args.draft in
    let d = drafted c.in_ok-draft.draft in
    let ts = c.args.transfers.now in
    MatchResult-weaker c.seat_all.result c.seat_all.ensures
    (λ t h. turns_more c.args.before b d ts (Ok (emptied (issued t))) c.in_ok-draft.ensures (turn_done d (issued t) ts h.0))
    (λ e h. turns_more c.args.before b d ts (Err (booking_refusal e)) c.in_ok-draft.ensures (turn_err d (booking_refusal e) ts h))

pub returns-clause-seats : goal.returns-clause-seats
returns-clause-seats g c =
    MatchResult-weaker c.seat_all.result c.seat_all.ensures
    (λ t h. seated g.K.Cabinet.meaning c.args.before (drafted c.args.draft) (drafted c.in_ok-draft.draft) (issued t) c.args.transfers.now (seats t) c.requires c.in_ok-draft.ensures h.0 h.1)
    (λ e h. tt)
