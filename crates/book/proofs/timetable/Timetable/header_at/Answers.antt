-- A live transfer is between nodes, and its spine is there.
use Rattle.bookings.specs.Tables.{model}
use Rattle.bookings.proofs.Facts.{lines, nodes, between}
use Rattle.book.proofs.Answering.{placed_at}
use Rattle.book.proofs.timetable.Timetable.header_at.Goals as goal

pub header_placed-requires : goal.header_placed-requires
header_placed-requires g c =
    let t = c.args.self.now in
    let table = t.table in
    rw (c.sizes.ensures.m, c.sizes.ensures.n, c.live.ensures, c.index.ensures) (placed_at _ (model table) _ t.clash_free (lines table) (nodes table) (between table) c.args.place c.index.result.now c.requires)
