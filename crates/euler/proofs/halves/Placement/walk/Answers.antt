-- Each step of the walk.
use Rattle.std.proofs.Common.{◌<◌, List, length, refl, ap, ◌∙◌, arith, rules}
use Rattle.euler.specs.declared.pairs.Partners.{Partners}
use Rattle.euler.specs.Pairs.{partner}
use Rattle.euler.proofs.Walking.{walking_first, stepped, finished, fewer}
use Rattle.euler.proofs.halves.Placement.walk.Goals as goal

pub loop-next-init : goal.loop-next-init
loop-next-init c = record {
  partners = refl;
  walking = walking_first _ _ _ _ c.args.first (omega (arith, c.requires.within, c.args.self.now.matched)) c.requires.begun.start c.requires.begun.settled;
}

pub loop-next-smaller : goal.loop-next-smaller
loop-next-smaller c =
    let s = c.loop-next.self in
    let st = c.in-Some.ensures.steps in
    let l : c.in-Some.next.line < length s.halves.now = omega (arith, (s.symmetric _ _ _ st.to).0, s.matched) in
    rw st.put (fewer s.halves.now c.in-Some.next.line _ l st.fresh)

pub loop-next-preserved : goal.loop-next-preserved
loop-next-preserved c =
    let s = c.loop-next.self in
    let inv = c.loop-next.invariant in
    record {
      partners = c.in-Some.ensures.partners ∙ inv.partners;
      walking = stepped _ _ _ s.halves.now _ _ c.loop-next.walk c.args.self.now.symmetric (omega (arith, s.matched, ap length inv.partners)) inv.walking
          c.in-Some.next _ c.step.new.self.halves.now (ap (λ (ps : List Partners). partner ps c.loop-next.walk.side c.loop-next.walk.line) inv.partners) c.in-Some.ensures.steps;
    }

pub returns : goal.returns
returns c =
    let s = c.loop-next.self in
    let inv = c.loop-next.invariant in
    let r = finished _ _ _ s.halves.now _ _ c.loop-next.walk c.args.self.now.symmetric (omega (arith, s.matched, ap length inv.partners)) inv.walking
    _ c.step.new.self.halves.now c.requires.begun (ap (λ (ps : List Partners). partner ps c.loop-next.walk.side c.loop-next.walk.line) inv.partners) c.in_default.ensures.steps in
    record { partners = search rules; begun = r.0; first = r.1; second = search rules }
