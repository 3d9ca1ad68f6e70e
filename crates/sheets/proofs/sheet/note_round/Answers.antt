-- The senders of a round are below the number of nodes, and each is noted once.
use Rattle.std.proofs.Common.{ℕ, ◌*◌, length, None, Option, ap, ◌∙◌}
use Rattle.std.proofs.lemmas.List.{length-replicate}
use Rattle.bookings.specs.Model.{Model}
use Rattle.book.specs.Books.{issued, seats}
use Rattle.sheets.proofs.Whole.{senders_below, sent_apart, round_noted}
use Rattle.sheets.proofs.sheet.note_round.Goals as goal

pub note_senders-requires-clause-apart : goal.note_senders-requires-clause-apart
note_senders-requires-clause-apart g c =
    let t = c.args.timetable.now in
    rw (c.live.ensures ∙ ap (λ (b : Model). b.live) c.table.ensures, c.seats.ensures)
    (sent_apart g.K.Cabinet.meaning (issued t) (seats t) c.args.round g.met.K.Cabinet.meeting t.clash_free t.table.lines t.table.nodes t.table.between)

pub note_senders-requires-clause-low : goal.note_senders-requires-clause-low
note_senders-requires-clause-low g c =
    let t = c.args.timetable.now in
    let b = issued t in
    rw (c.live.ensures ∙ ap (λ (b : Model). b.live) c.table.ensures) (senders_below b (length c.args.places.now) t.table.between (ap length c.requires ∙ length-replicate {A = Option ℕ} (b.m * b.n) None))

pub returns : goal.returns
returns g c =
    let t = c.args.timetable.now in
    let b = issued t in
    round_noted g.K.Cabinet.meaning b (seats t) t.clash_free t.table.lines t.table.nodes t.table.between c.args.round c.note_senders.new.places c.note_senders.result
    (c.note_senders.auto.places ∙ ap length c.requires ∙ length-replicate {A = Option ℕ} (b.m * b.n) None)
    c.live.result.now c.seats.result.now (c.live.ensures ∙ ap (λ (b : Model). b.live) c.table.ensures) c.seats.ensures c.note_senders.ensures
