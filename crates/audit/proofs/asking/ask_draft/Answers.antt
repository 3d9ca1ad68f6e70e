-- A booking has many refusals, more than `grind` tells apart; and a load has many faults.
use Rattle.std.proofs.Common.{◌≤◌, ap, rules, arith}
use Rattle.bookings.specs.Model.{Model}
use Rattle.audit.proofs.Stepping.{a_draft}
use Rattle.audit.proofs.Tickets.{given_left}
use Rattle.audit.proofs.asking.ask_draft.Goals as goal

pub returns-in-Book-clause-step : goal.returns-in-Book-clause-step
returns-in-Book-clause-step g c = search (rules, a_draft)

pub returns-in-Load-clause-limits : goal.returns-in-Load-clause-limits
returns-in-Load-clause-limits g c =
    let few : c.load-answer.new.self.table.given ≤ 65535 = rw (ap (λ (b : Model). b.given) c.load-answer.ensures.book) (given_left _ _ (omega arith)) in search rules
