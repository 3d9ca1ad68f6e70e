-- Each line adds one at both of its ends.
use Rattle.std.proofs.Common.{ℕ, Option, sym, refl, ap, ◌∙◌, arith}
use Rattle.std.proofs.lemmas.List.{take_all}
use Rattle.lines.specs.declared.degrees.Crowds.{Crowds}
use Rattle.lines.specs.declared.line.Side.TheVariants.{Left, Right}
use Rattle.lines.specs.Lines.{ends}
use Rattle.lines.specs.Refusals.{crowded}
use Rattle.lines.proofs.Places.{length_ends}
use Rattle.lines.proofs.Accepted.{none_above}
use Rattle.lines.proofs.Counting.{here, counts_more, few_counted, crowded_more}
use Rattle.lines.proofs.degrees.count.Goals as goal

abbrev made : Option ℕ → Option ℕ → Crowds
made l r = record { left = l; right = r }

pub loop-line-init : goal.loop-line-init
loop-line-init c =
    let none = sym (none_above (λ v. 0) c.args.c 0 512 (λ u p q. omega arith)) in
    (c.requires.left_zero, none, c.requires.right_zero, none)

pub add-lowest_left-requires : goal.add-lowest_left-requires
add-lowest_left-requires c =
    let h = here Left c.args.bounded.lines.now c.loop-line.line-index _ _ c.loop-line.left refl c.args.bounded.inside c.loop-line-test.true (c.loop-line.auto.left ∙ c.requires.left_room) in
    record { end = h.room; few = omega (arith, few_counted Left (ends c.args.bounded.lines.now) c.loop-line.left c.loop-line.line-index _ h.within h.at h.room c.loop-line.invariant.0, c.args.bounded.few, c.loop-line-test.true) }

pub add-lowest_right-requires : goal.add-lowest_right-requires
add-lowest_right-requires c =
    let h = here Right c.args.bounded.lines.now c.loop-line.line-index _ _ c.loop-line.right refl c.args.bounded.inside c.loop-line-test.true (c.loop-line.auto.right ∙ c.requires.right_room) in
    record { end = h.room; few = omega (arith, few_counted Right (ends c.args.bounded.lines.now) c.loop-line.right c.loop-line.line-index _ h.within h.at h.room c.loop-line.invariant.2, c.args.bounded.few, c.loop-line-test.true) }

pub loop-line-preserved : goal.loop-line-preserved
loop-line-preserved c =
    let ps = ends c.args.bounded.lines.now in
    let i = c.loop-line.line-index in
    let inv = c.loop-line.invariant in
    let l = here Left c.args.bounded.lines.now i _ _ c.loop-line.left refl c.args.bounded.inside c.loop-line-test.true (c.loop-line.auto.left ∙ c.requires.left_room) in
    let r = here Right c.args.bounded.lines.now i _ _ c.loop-line.right refl c.args.bounded.inside c.loop-line-test.true (c.loop-line.auto.right ∙ c.requires.right_room) in (
      rw c.add-lowest_left.ensures.counts (counts_more Left ps c.loop-line.left i _ l.within l.at l.room inv.0),
      crowded_more Left ps c.loop-line.left i _ l.within l.at l.room c.args.c l.low inv.0 _ _ inv.1 c.add-lowest_left.ensures.lowest,
      rw c.add-lowest_right.ensures.counts (counts_more Right ps c.loop-line.right i _ r.within r.at r.room inv.2),
      crowded_more Right ps c.loop-line.right i _ r.within r.at r.room c.args.c r.low inv.2 _ _ inv.3 c.add-lowest_right.ensures.lowest,
    )

pub returns : goal.returns
returns c =
    let all = take_all c.loop-line.line-index (ends c.args.bounded.lines.now) (omega (arith, length_ends c.args.bounded.lines.now, c.loop-line-test.false)) in
    let inv = c.loop-line.invariant in
    record {
      left = rw (← all) inv.0;
      right = rw (← all) inv.2;
      crowds = ap (λ o. made o c.loop-line.lowest_right) (inv.1 ∙ ap (crowded Left c.args.c) all) ∙ ap (made (crowded Left c.args.c (ends c.args.bounded.lines.now))) (inv.3 ∙ ap (crowded Right c.args.c) all);
    }
