-- The law of the empty history: 1 is served by every arranger.
use Rattle.std.proofs.Common.{arith}
use Rattle.audit.proofs.Stepping.{lawful_new, due_new}
use Rattle.audit.proofs.states.Book.new.Goals as goal

pub returns-in_err-draft-clause-lawful : goal.returns-in_err-draft-clause-lawful
returns-in_err-draft-clause-lawful g c = lawful_new g.K.Cabinet.meaning g.A.Arranger.served (g.met.A.Arranger.powers 0 (omega arith))

pub returns-in_err-draft-clause-due : goal.returns-in_err-draft-clause-due
returns-in_err-draft-clause-due g c = due_new g.A.Arranger.served
