-- The theorem is proved in Exists, by the kind's law of meeting.
use Rattle.timetables.proofs.Exists.{rounds_suffice}
use Rattle.timetables.proofs.theorem.rounds_suffice.Goals as goal

pub returns : goal.returns
returns g c = rounds_suffice g.K.Cabinet.meaning g.met.K.Cabinet.meeting
