-- A booking of two nodes is refused for want of rounds exactly where no timetable holds it.
use Rattle.std.proofs.Common.{ℕ, Result, subst, sym}
use Rattle.crossbar.specs.Refusals.{Refusal}
use Rattle.bookings.specs.Tables.{model}
use Rattle.bookings.proofs.Facts.{lines, nodes, between, within}
use Rattle.book.specs.Calls.{FullExactly}
use Rattle.book.proofs.Answering.{full_exactly}
use Rattle.book.proofs.draft.Draft.book.Goals as goal

pub returns-clause-full : goal.returns-clause-full
returns-clause-full g c =
    let kind = g.K.Cabinet.meaning in
    let table = c.args.self.now.table in
    subst (λ (a : Result ℕ Refusal). FullExactly kind (model table) c.args.transfer a) (sym c.book.ensures.answer)
    (full_exactly kind (model table) c.args.transfer g.met.K.Cabinet.meeting (lines table) (nodes table) (between table) (within table))
