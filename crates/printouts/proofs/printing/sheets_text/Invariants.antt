-- The sheets of the rounds up to here stand in the text.
use Rattle.std.proofs.Common.{◌≡◌, ◌+◌, ◌*◌, ◌≤◌, length, vec_items, vec_len}
use Rattle.std.specs.List.{flat_map, range_with_len}
use Rattle.kinds.specs.Folded.{folded}
use Rattle.book.specs.Books.{issued, seats}
use Rattle.sheets.specs.Sheets.{sheet_text}
use Rattle.printouts.proofs.printing.sheets_text.Given as goal

abbrev pub invariant-loop-round : goal.invariant-loop-round
invariant-loop-round l = record {
  text : vec_items l.text ≡ flat_map (sheet_text folded (issued l.timetable) (seats l.timetable)) (range_with_len 0 l.round);
  room : 8 + 20 * length (issued l.timetable).live ≤ vec_len l.buffer;
}
