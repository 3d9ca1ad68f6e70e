-- A transfer is refused, or a turn is over.
use Rattle.std.proofs.Common.{Ok}
use Rattle.std.proofs.lemmas.Result.{err_from_is_err_and}
use Rattle.bookings.specs.Refusals.{booking_refusal}
use Rattle.book.specs.Books.{drafted}
use Rattle.book_exports.proofs.Turning.{turns_more, turns_end}
use Rattle.book_exports.proofs.turns.run_turns.Goals as goal

pub returns-in_err-draft : goal.returns-in_err-draft
returns-in_err-draft g c =
    let p = err_from_is_err_and c.from_residual.result c.from_residual.ensures.1 in
    rw (p.1, p.2)
    (turns_end c.loop-done._done c.args.times (drafted c.args.draft) (drafted c.loop-done.draft) c.args.transfers.now (booking_refusal c.in_err-draft.field-0.0) c.loop-done.invariant c.in_err-draft.ensures c.loop-done-test.true)

pub loop-done-preserved : goal.loop-done-preserved
loop-done-preserved g c =
    turns_more c.loop-done._done (drafted c.args.draft) (drafted c.loop-done.draft) c.args.transfers.now (Ok (drafted c.in_ok-draft.draft)) c.loop-done.invariant c.in_ok-draft.ensures
