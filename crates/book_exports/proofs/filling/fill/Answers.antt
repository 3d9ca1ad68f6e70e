-- The seats are as many as the transfers of the bytes, and stand in them.
use Rattle.std.proofs.Common.{length, sym, ap, ◌∙◌, arith}
use Rattle.std.proofs.lemmas.Bool.{eqb-true}
use Rattle.timetables.specs.Timetables.{ClashFree}
use Rattle.book.specs.Books.{drafted}
use Rattle.book_exports.specs.Filling.{filling_due}
use Rattle.book_exports.proofs.SeatBytes.{length_transfers}
use Rattle.book_exports.proofs.Fillings.{filled}
use Rattle.book_exports.proofs.filling.fill.Goals as goal

pub put_seats-requires : goal.put_seats-requires
put_seats-requires g c =
    let made = c.as_slice.ensures.value ∙ c.in_ok-transfers.ensures in
    let free = rw c.in-Some.is at c.in_ok-timetable.ensures.seats in
    omega (arith, ap length c.seats.ensures, free.1.each, ap length made, length_transfers c.args.bytes.now)

pub returns : goal.returns
returns g c =
    let made = c.as_slice.ensures.value ∙ c.in_ok-transfers.ensures in
    let kind = g.K.Cabinet.meaning c.args.sizes.m c.args.sizes.n in
    let due = filling_due (drafted c.args.draft) (g.A.Arranger.served c.args.rounds) c.args.sizes.m c.args.sizes.n c.args.rounds c.args.times in
    let free = rw (c.in-Some.is, made, ← c.seats.ensures) at c.in_ok-timetable.ensures.seats in
    filled due (ClashFree kind c.args.sizes.n c.args.rounds) c.args.times c.args.bytes.now c.put_seats.new.bytes c.seats.result.now
    (eqb-true _ 0 (sym c.are_whole.ensures ∙ c.if-not-are_whole.false)) c.put_seats.auto.bytes (rw made at c.in_ok-timetable.ensures.answer) free.0 free.1.each free.1 c.put_seats.ensures.seats c.put_seats.ensures.nodes
