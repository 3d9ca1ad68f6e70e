-- The seats of an issue make a clash-free timetable.
use Rattle.book.specs.Books.{issued, seats}
use Rattle.printouts.proofs.Planning.{seated}
use Rattle.printouts.proofs.plan.plan.Goals as goal

pub returns-clause-seats : goal.returns-clause-seats
returns-clause-seats c = seated (issued c.issue.result) _ (seats c.issue.result) c.issue.ensures.book c.issue.ensures.clash_free c.issue.ensures.delivers
