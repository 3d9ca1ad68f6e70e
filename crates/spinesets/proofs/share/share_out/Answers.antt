-- The lines that the arranger hands back are arranged, and the transfers have their colours.
use Rattle.std.proofs.Common.{ap, ◌∙◌}
use Rattle.std.proofs.lemmas.List.{take_at}
use Rattle.lines.specs.Lines.{colours}
use Rattle.spinesets.proofs.Steps.{none_due, shared}
use Rattle.spinesets.proofs.share.share_out.Goals as goal

pub returns-clause-spines : goal.returns-clause-spines
returns-clause-spines g c =
    let made = c.as_mut_slice.ensures.value ∙ c.in_ok-lines.ensures in
    let start = c.as_mut_slice-2.ensures.value ∙ c.in_ok-assigned.ensures in
    let done = c.in_ok-arrange.ensures in
    let after = c.as_slice.ensures.value ∙ take_at c.arrange.new.lines _ _ (c.arrange.auto.lines ∙ c.as_mut_slice.ensures.len) in (
      none_due (g.A.Arranger.served c.args.n) c.args.n c.args.transfers.now c.as_mut_slice.result.now done.refused made,
      rw (take_at c.assign.new.assigned _ _ (c.assign.auto.assigned ∙ c.as_mut_slice-2.ensures.len))
          (shared c.args.n c.args.transfers.now c.as_mut_slice.result.now c.arrange.new.lines c.as_mut_slice-2.result.now c.assign.new.assigned done.lines made start c.assign.ensures.transfers (c.assign.ensures.spines ∙ ap colours after)),
    )
