-- The history with one call more, by the step from one book to the next.
use Rattle.std.proofs.Common.{rules}
use Rattle.audit.proofs.Stepping.{agrees_push, lawful_push, due_push}
use Rattle.audit.proofs.asking.ask.Goals as goal

pub returns-clause-agrees : goal.returns-clause-agrees
returns-clause-agrees g c = λ first h is. search (rules, agrees_push)

pub returns-clause-lawful : goal.returns-clause-lawful
returns-clause-lawful g c = λ first h is. search (rules, lawful_push)

pub returns-clause-due : goal.returns-clause-due
returns-clause-due g c = λ first h is. search (rules, due_push)
