-- The transfer at the place is between nodes, and its ticket is live.
use Rattle.std.proofs.Common.{ap, ◌∙◌}
use Rattle.bookings.specs.Model.{Model}
use Rattle.book.specs.Books.{issued, seats}
use Rattle.sheets.proofs.Rows.{sender_fits, receiver_fits, always_live, row_is}
use Rattle.sheets.proofs.sheet.row_at.Goals as goal

pub unreachable-requires : goal.unreachable-requires
unreachable-requires g c =
    let t = c.args.timetable.now in
    always_live g.K.Cabinet.meaning (issued t) (seats t) t.clash_free t.table.lines t.table.nodes t.table.between c.args.place c.requires
    _ _ _ _ (c.live.ensures ∙ ap (λ (b : Model). b.live) c.table.ensures) c.seats.ensures c.from.ensures c.from-2.ensures t.table.rising c.in_default.field-0 c.in_default.ensures.answer

pub row-requires-clause-sender : goal.row-requires-clause-sender
row-requires-clause-sender g c =
    let t = c.args.timetable.now in
    sender_fits g.K.Cabinet.meaning (issued t) (seats t) t.clash_free t.table.lines t.table.nodes t.table.between c.args.place c.requires
    _ _ _ _ (c.live.ensures ∙ ap (λ (b : Model). b.live) c.table.ensures) c.seats.ensures c.from.ensures c.from-2.ensures

pub row-requires-clause-receiver : goal.row-requires-clause-receiver
row-requires-clause-receiver g c =
    let t = c.args.timetable.now in
    receiver_fits g.K.Cabinet.meaning (issued t) (seats t) t.clash_free t.table.lines t.table.nodes t.table.between c.args.place c.requires
    _ _ _ _ (c.live.ensures ∙ ap (λ (b : Model). b.live) c.table.ensures) c.seats.ensures c.from.ensures c.from-2.ensures

pub returns : goal.returns
returns g c =
    let t = c.args.timetable.now in
    row_is g.K.Cabinet.meaning (issued t) (seats t) t.clash_free t.table.lines t.table.nodes t.table.between c.args.place c.requires
    _ _ _ _ (c.live.ensures ∙ ap (λ (b : Model). b.live) c.table.ensures) c.seats.ensures c.from.ensures c.from-2.ensures t.table.rising _ _ c.in-Ok.ensures.answer c.row.ensures
