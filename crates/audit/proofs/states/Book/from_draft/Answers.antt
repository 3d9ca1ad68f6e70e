-- The law of the empty history: 1 is served by every arranger.
use Rattle.std.proofs.Common.{arith}
use Rattle.audit.proofs.Stepping.{lawful_new, due_new}
use Rattle.audit.proofs.states.Book.from_draft.Goals as goal

pub returns-clause-lawful : goal.returns-clause-lawful
returns-clause-lawful g c = lawful_new g.K.Cabinet.meaning g.A.Arranger.served (g.met.A.Arranger.powers 0 (omega arith))

pub returns-clause-due : goal.returns-clause-due
returns-clause-due g c = due_new g.A.Arranger.served
