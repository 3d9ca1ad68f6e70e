-- Every arranger serves four colours, by its laws, so it cannot refuse.
use Rattle.std.proofs.Common.{arith}
use Rattle.spinesets.proofs.Steps.{not_refused}
use Rattle.spinesets.proofs.example.example_sets.Goals as goal

pub no_memory-requires : goal.no_memory-requires
no_memory-requires g c = not_refused (g.A.Arranger.served 4) c.in-Err.error (g.met.A.Arranger.powers 2 (omega arith)) c.in-Err.ensures.spines
