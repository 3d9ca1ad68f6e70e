-- What a refused booking leaves.
use Rattle.std.proofs.Common.{rules}
use Rattle.bookings.proofs.Loading.{part_refused, part_follows_more}
use Rattle.bookings.proofs.table.Table.book_records.Goals as goal

pub returns-in_err-book_record-clause-answer : goal.returns-in_err-book_record-clause-answer
returns-in_err-book_record-clause-answer c = search (rules, part_refused)

pub returns-in_err-book_record-clause-follows : goal.returns-in_err-book_record-clause-follows
returns-in_err-book_record-clause-follows c = search (rules, part_follows_more)
