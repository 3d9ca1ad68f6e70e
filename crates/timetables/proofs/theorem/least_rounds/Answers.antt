-- The theorem is proved in Exists, by the kind's law of meeting.
use Rattle.timetables.proofs.Exists.{least_rounds}
use Rattle.timetables.proofs.theorem.least_rounds.Goals as goal

pub returns : goal.returns
returns g c = least_rounds g.K.Cabinet.meaning g.met.K.Cabinet.meeting
