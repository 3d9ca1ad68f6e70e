-- The head line and the rows of the transfers are the sheet.
use Rattle.std.proofs.Common.{ℕ, ◌+◌, ◌*◌, sym, ap, ◌∙◌, arith}
use Rattle.book.specs.Books.{issued, seats}
use Rattle.sheets.proofs.Whole.{text_long, text_left}
use Rattle.sheets.proofs.sheet.write_sheet.Goals as goal

pub returns-clause-buffer : goal.returns-clause-buffer
returns-clause-buffer g c =
    let t = c.args.timetable.now in
    text_left g.K.Cabinet.meaning (issued t) (seats t) c.args.round c.note_round-count.new.places c.note_round-count.result c.note_round-count.ensures c.requires.round t.table.limit
    c.args.buffer.now _ _ _ (c.copy_from_slice.ensures.after ∙ c.head_line.ensures) c.split_at_mut-head.ensures.back c.write_rows.ensures (omega (arith, c.if-buffer-length.false, c.from.ensures))

pub returns-clause-length : goal.returns-clause-length
returns-clause-length g c =
    let t = c.args.timetable.now in
    text_long g.K.Cabinet.meaning (issued t) (seats t) c.args.round c.note_round-count.new.places c.note_round-count.result c.note_round-count.ensures c.requires.round t.table.limit
    ∙ ap (λ (n : ℕ). 8 + 20 * n) (sym c.from.ensures)
