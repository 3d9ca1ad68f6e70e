-- The histories are replayed in Admitting, by the kind's laws; 1 is served by every arranger.
use Rattle.std.proofs.Common.{arith}
use Rattle.audit.proofs.Admitting.{admitted}
use Rattle.audit.proofs.theorem.law_admits.Goals as goal

pub returns : goal.returns
returns g c = admitted g.K.Cabinet.meaning g.A.Arranger.served g.met.K.Cabinet.arrival g.met.K.Cabinet.meeting (g.met.A.Arranger.powers 0 (omega arith))
