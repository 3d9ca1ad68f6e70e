-- A load wants rounds at a record exactly where no timetable holds its transfer beside those before it.
use Rattle.std.proofs.Common.{rules}
use Rattle.image.specs.Meaning.{with_texts}
use Rattle.bookings.specs.Tables.{model}
use Rattle.bookings.proofs.Facts.{lines, nodes, between, within, added_rounds}
use Rattle.book.proofs.Loading.{load_full_exactly}
use Rattle.book.proofs.draft.Draft.load.Goals as goal

pub returns-clause-full : goal.returns-clause-full
returns-clause-full g c =
    let table = c.args.self.now.table in
    load_full_exactly g.K.Cabinet.meaning g.met.K.Cabinet.meeting (model table) (with_texts c.args.image.now c.args.texts)
    (lines table) (nodes table) (record { between = between table; within = within table }) _ c.load.ensures.answer

pub invariant_of-self-clause-served : goal.invariant_of-self-clause-served
invariant_of-self-clause-served g c =
    let same = added_rounds (model c.args.self.now.table) _ _ (model c.load.new.self) c.load.ensures.adds in
    search (rules, same)
