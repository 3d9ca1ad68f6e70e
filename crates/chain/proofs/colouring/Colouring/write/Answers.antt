-- One line more has its colour.
use Rattle.std.proofs.Common.{◌≡◌, ◌+◌, ◌<◌, List, length, sym, ap, ◌∙◌, subst, arith}
use Rattle.std.proofs.lemmas.List.{set-get_or}
use Rattle.lines.specs.declared.line.Line.{Line}
use Rattle.lines.specs.Lines.{ends}
use Rattle.chain.specs.Colourings.{Copied, number_of}
use Rattle.chain.proofs.Moving.{blank, set_ends, copy_some, copy_none}
use Rattle.chain.proofs.Steps.{read_colour}
use Rattle.chain.proofs.colouring.Colouring.write.Goals as goal
use Rattle.chain.proofs.colouring.Colouring.write.Goals.{in-Some, in_default}

pub loop-k-preserved : goal.loop-k-preserved
loop-k-preserved c =
    let w = c.args.self.now in
    let ls = c.loop-k.lines in
    let k = c.loop-k.k in
    let inv = c.loop-k.invariant in
    let l : k < length ls = omega arith in
    let read = read_colour w k c.index.result.now (omega (arith, c.loop-k-test.true, c.requires)) c.index.ensures in
    elim c.match-index.branch [
      | in-Some x ↦
          (let a = x.in-Some.colour.number in
          record {
            same = ap ends x.lines-is ∙ set_ends ls k a l ∙ inv.same;
            copied = subst (λ (ms : List Line). Copied w (k + 1) ms) (sym x.lines-is) (copy_some w k a ls inv.copied l (sym read ∙ ap number_of x.in-Some.is));
          })
      | in_default x ↦
          (let kept : c.match-index.lines ≡ ls = x.lines-is ∙ set-get_or ls k blank in
          record {
            same = ap ends kept ∙ inv.same;
            copied = subst (λ (ms : List Line). Copied w (k + 1) ms) (sym kept) (copy_none w k ls inv.copied (sym read ∙ ap number_of x.in_default.is));
          })
    ]
