-- The sizes are refused, or a transfer in one of the turns, or nothing is.
use Rattle.std.proofs.Common.{◌≡◌, ◌+◌, Ok, Err, ap, ◌∙◌, arith}
use Rattle.std.proofs.lemmas.Result.{err_from_is_err_and}
use Rattle.bookings.specs.Refusals.{fit_refusal, booking_refusal}
use Rattle.book.specs.Books.{drafted, issued}
use Rattle.book_exports.specs.Filling.{emptied}
use Rattle.book_exports.proofs.Turning.{none_done, unfit, fit, fit_gives}
use Rattle.book_exports.proofs.turns.last_timetable.Goals as goal

pub returns-in_err-fit-clause-answer : goal.returns-in_err-fit-clause-answer
returns-in_err-fit-clause-answer g c =
    let p = err_from_is_err_and c.from_residual.result c.from_residual.ensures.1 in
    rw (p.1, p.2)
    (unfit (drafted c.args.draft) (g.A.Arranger.served c.args.rounds) c.args.sizes.m c.args.sizes.n c.args.rounds c.args.times c.args.transfers.now (fit_refusal c.in_err-fit.field-0.0) c.in_err-fit.ensures.answer)

pub returns-in_default-clause-answer : goal.returns-in_default-clause-answer
returns-in_default-clause-answer g c =
    let none : c.args.times ≡ 0 = omega arith in
    fit (drafted c.args.draft) (g.A.Arranger.served c.args.rounds) c.args.sizes.m c.args.sizes.n c.args.rounds c.args.times c.args.transfers.now (drafted c.fit.new.self) (Ok (drafted c.fit.new.self)) c.in_ok-fit.ensures.answer c.in_ok-fit.ensures.book
    (rw none (none_done (drafted c.fit.new.self) c.args.transfers.now))

pub seat_last-requires : goal.seat_last-requires
seat_last-requires g c =
    ap (λ b. b.live) (c.in_ok-fit.ensures.book ∙ fit_gives (drafted c.args.draft) (g.A.Arranger.served c.args.rounds) c.args.sizes.m c.args.sizes.n c.args.rounds c.in_ok-fit.ensures.answer)

pub returns-in_err-timetable-clause-answer : goal.returns-in_err-timetable-clause-answer
returns-in_err-timetable-clause-answer g c =
    let p = err_from_is_err_and c.from_residual-in_err-timetable.result c.from_residual-in_err-timetable.ensures.1 in
    let all : c.args.times ≡ c.in-Some.before + 1 = omega arith in
    rw (p.1, p.2)
    (fit (drafted c.args.draft) (g.A.Arranger.served c.args.rounds) c.args.sizes.m c.args.sizes.n c.args.rounds c.args.times c.args.transfers.now (drafted c.fit.new.self) (Err (booking_refusal c.in_err-timetable.field-0.0)) c.in_ok-fit.ensures.answer c.in_ok-fit.ensures.book
    (rw all c.in_err-timetable.ensures.answer))

pub returns-clause-answer : goal.returns-clause-answer
returns-clause-answer g c =
    let all : c.args.times ≡ c.in-Some.before + 1 = omega arith in
    fit (drafted c.args.draft) (g.A.Arranger.served c.args.rounds) c.args.sizes.m c.args.sizes.n c.args.rounds c.args.times c.args.transfers.now (drafted c.fit.new.self) (Ok (emptied (issued c.in_ok-timetable.timetable))) c.in_ok-fit.ensures.answer c.in_ok-fit.ensures.book
    (rw all c.in_ok-timetable.ensures.answer)
