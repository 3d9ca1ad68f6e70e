-- At first no place is noted; and each transfer of the round has its row, whether the sheet is written or refused.
use Rattle.std.proofs.Common.{◌≡◌, ℕ, ◌*◌, None, ap, ◌∙◌}
use Rattle.std.proofs.lemmas.List.{take-replicate}
use Rattle.bookings.specs.Model.{Model}
use Rattle.book.specs.Books.{issued, seats}
use Rattle.sheets.proofs.Whole.{few_nodes, rows_there}
use Rattle.sheets.proofs.sheet.sheet.Goals as goal

pub write_sheet-requires-clause-places : goal.write_sheet-requires-clause-places
write_sheet-requires-clause-places g c =
    let t = c.args.timetable.now in
    let m = c.from.ensures ∙ c.sizes-sizes.ensures.m ∙ ap (λ (b : Model). b.m) c.table-table.ensures in
    let n = c.from-2.ensures ∙ c.sizes-sizes.ensures.n ∙ ap (λ (b : Model). b.n) c.table-table.ensures in
    let nodes : c.from.result * c.from-2.result ≡ t.table.sizes.m * t.table.sizes.n = ap (λ (x : ℕ). x * c.from-2.result) m ∙ ap (λ (x : ℕ). t.table.sizes.m * x) n in
    rw nodes (take-replicate (t.table.sizes.m * t.table.sizes.n) 512 None (few_nodes t.table.sizes.m t.table.sizes.n t.table.lines t.table.nodes))

pub returns-then-round-rounds-clause-rows : goal.returns-then-round-rounds-clause-rows
returns-then-round-rounds-clause-rows g c =
    let t = c.args.timetable.now in
    rows_there g.K.Cabinet.meaning (issued t) (seats t) c.args.round g.met.K.Cabinet.meeting t.clash_free t.table.lines t.table.nodes t.table.between

pub returns-clause-rows : goal.returns-clause-rows
returns-clause-rows g c =
    let t = c.args.timetable.now in
    rows_there g.K.Cabinet.meaning (issued t) (seats t) c.args.round g.met.K.Cabinet.meeting t.clash_free t.table.lines t.table.nodes t.table.between
