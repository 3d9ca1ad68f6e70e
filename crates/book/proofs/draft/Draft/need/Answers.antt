-- The largest load is the least number of rounds.
use Rattle.std.proofs.Common.{ℕ, ◌≤◌, ◌↔◌, subst, sym}
use Rattle.timetables.specs.Timetables.{Timetabled}
use Rattle.timetables.proofs.Exists.{least_rounds}
use Rattle.bookings.specs.Model.{transfers}
use Rattle.bookings.specs.Tables.{model}
use Rattle.bookings.proofs.Facts.{lines, nodes, between}
use Rattle.book.proofs.draft.Draft.need.Goals as goal

pub returns-clause-least : goal.returns-clause-least
returns-clause-least g c =
    let kind = g.K.Cabinet.meaning in
    let table = c.args.self.now.table in
    let b = model table in
    subst (λ k. (R : ℕ) → Timetabled (kind b.m b.n) b.n R (transfers b.live) ↔ (k ≤ R)) (sym c.need.ensures)
    (λ R. least_rounds kind g.met.K.Cabinet.meeting b.m b.n R (transfers b.live) (lines table) (nodes table) (between table))
