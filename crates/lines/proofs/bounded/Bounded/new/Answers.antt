-- Ends are inside where none is above 511.
use Rattle.std.proofs.Common.{sym, ◌∙◌, arith}
use Rattle.lines.proofs.Accepted.{inside_from}
use Rattle.lines.proofs.bounded.Bounded.new.Goals as goal

pub invariant_of-result : goal.invariant_of-result
invariant_of-result c = record { few = omega arith; inside = inside_from c.args.lines.now (sym c.has_end_above.ensures ∙ c.if-has_end_above.false) }
