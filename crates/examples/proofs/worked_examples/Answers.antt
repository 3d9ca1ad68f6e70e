-- Most examples are computed; those of two lines stand in Twins.
use Rattle.std.proofs.Common.{rules}
use Rattle.examples.proofs.Twins.{one_colour, two_colours, either_order, no_lines}
use Rattle.examples.proofs.worked_examples.Goals as goal

pub returns : goal.returns
returns c = (search rules, search rules, search rules, (one_colour, two_colours, either_order, no_lines))
