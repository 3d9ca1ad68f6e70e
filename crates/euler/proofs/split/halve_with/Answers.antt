-- Partners are in different halves, so the shares differ by at most one.
use Rattle.std.proofs.Common.{length, ◌∙◌, arith, length-take-le}
use Rattle.lines.specs.Lines.{ends, end_at}
use Rattle.euler.proofs.Halving.{symmetric_from, halved_from}
use Rattle.euler.proofs.Pairing.{paired_both}
use Rattle.euler.proofs.split.halve_with.Goals as goal

pub invariant_of-placement-clause-symmetric : goal.invariant_of-placement-clause-symmetric
invariant_of-placement-clause-symmetric c = symmetric_from _ _ (end_at (ends c.args.lines.now)) (c.find_partners.auto.partners ∙ length-take-le _ _ (omega arith))
    (paired_both _ (end_at (ends c.args.lines.now)) _ c.find_partners.ensures.left c.find_partners.ensures.right)

pub returns : goal.returns
returns c =
    halved_from c.args.lines.now c.tell.new.lines c.find_partners.new.partners c.place_all.new.self.halves.now (c.find_partners.auto.partners ∙ length-take-le _ _ (omega arith))
    (paired_both _ (end_at (ends c.args.lines.now)) _ c.find_partners.ensures.left c.find_partners.ensures.right)
    c.place_all.ensures.settled (λ k l. c.place_all.ensures.placed k (omega (arith, length-take-le (length c.args.lines.now) c.args.halves.now (omega arith)))) c.tell.ensures.ends c.tell.ensures.colours
