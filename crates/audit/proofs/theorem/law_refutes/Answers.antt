-- The histories are refuted in Refuting, by the kind's law of meeting.
use Rattle.audit.proofs.Refuting.{refuted}
use Rattle.audit.proofs.theorem.law_refutes.Goals as goal

pub returns : goal.returns
returns g c = refuted g.K.Cabinet.meaning g.A.Arranger.served g.met.K.Cabinet.meeting
