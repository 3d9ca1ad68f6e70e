-- The theorem is proved in Exists.
use Rattle.lines.proofs.Exists.{colours_suffice}
use Rattle.lines.proofs.theorem.colours_suffice.Goals as goal

pub returns : goal.returns
returns c = colours_suffice
