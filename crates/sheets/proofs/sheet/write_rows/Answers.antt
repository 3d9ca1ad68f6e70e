-- There is room for one row more.
use Rattle.std.proofs.Common.{ℕ, length, sym, ap, ◌∙◌, Option, arith}
use Rattle.book.specs.Books.{issued, seats}
use Rattle.sheets.specs.Sheets.{row_at}
use Rattle.sheets.proofs.Rows.{place_below, row_long}
use Rattle.sheets.proofs.Writing.{written_room}
use Rattle.sheets.proofs.sheet.write_rows.Goals as goal

pub slice_bounds-copy_from_slice-end : goal.slice_bounds-copy_from_slice-end
slice_bounds-copy_from_slice-end g c =
    let t = c.args.timetable.now in
    let kind = g.K.Cabinet.meaning in
    let low = place_below c.args.places.now c.loop-place.place-index _ _ c.requires.low c.loop-place-test.true (sym c.in-Some.is) in
    let long = ap (λ (o : Option ℕ). length (row_at kind (issued t) (seats t) o)) c.in-Some.is ∙ row_long kind (issued t) (seats t) t.clash_free t.table.lines t.table.nodes t.table.between c.in-Some.place low in
    let room = written_room (row_at kind (issued t) (seats t)) c.args.places.now c.args.rows.now _ _ _ c.loop-place.invariant c.loop-place-test.true 20 long c.requires.room in
    omega (arith, room, c.loop-place.auto.rows)

pub row_at-requires : goal.row_at-requires
row_at-requires g c = place_below c.args.places.now c.loop-place.place-index _ _ c.requires.low c.loop-place-test.true (sym c.in-Some.is)
