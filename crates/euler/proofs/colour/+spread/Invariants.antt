-- With each split one split fewer is left.
use Rattle.euler.proofs.colour.+spread.Given as goal

abbrev pub decreases-spread : goal.decreases-spread
decreases-spread l = l.range.splits
