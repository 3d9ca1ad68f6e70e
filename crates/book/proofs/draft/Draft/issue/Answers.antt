-- The two stages leave nothing to clash.
use Rattle.timetables.proofs.Clashes.{clash_free_of}
use Rattle.bookings.specs.Model.{transfers}
use Rattle.bookings.specs.Tables.{model}
use Rattle.bookings.proofs.Facts.{lines, nodes, between}
use Rattle.book.proofs.draft.Draft.issue.Goals as goal

pub invariant_of-result-clause-clash_free : goal.invariant_of-result-clause-clash_free
invariant_of-result-clause-clash_free g c =
    let table = c.args.self.table in
    let b = model table in
    clash_free_of g.K.Cabinet.meaning b.m b.n (transfers b.live) _ (lines table) (nodes table) (between table) b.rounds g.met.K.Cabinet.meeting c.seat.ensures.rounds c.seat.ensures.spines
