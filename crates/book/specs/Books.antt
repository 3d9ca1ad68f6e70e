-- What a draft and a timetable hold.
use Rattle.std.specs.Prelude.{◌≡◌, List, vec_items}
use Rattle.timetables.specs.declared.seat.Seat.{Seat}
use Rattle.bookings.specs.Model.{Model}
use Rattle.bookings.specs.Tables.{model}
use Rattle.book.specs.declared.draft.Draft.{Draft}
use Rattle.book.specs.declared.timetable.Timetable.{Timetable}

-- the sizes, the rounds, the tickets given and the live transfers of a draft, and those of a timetable
abbrev pub drafted : {K A B : Type 0} {k a b : _} → Draft K A B k a b → Model
drafted d = model d.table

abbrev pub issued : {K A B : Type 0} {k a b : _} → Timetable K A B k a b → Model
issued t = model t.table

-- the seats of a timetable, in the order of its live transfers
abbrev pub seats : {K A B : Type 0} {k a b : _} → Timetable K A B k a b → List Seat
seats t = vec_items t.desk.seats

-- two drafts have the same cabinet kind and the same arrangers
abbrev pub Untouched : {K A B : Type 0} {k a b : _} → Draft K A B k a b → Draft K A B k a b → Type 0
Untouched d e = (e.kind ≡ d.kind) × (e.round_arranger ≡ d.round_arranger) × (e.spine_arranger ≡ d.spine_arranger)
