-- One call more, by the law that it keeps; where its answer finds no memory, the calls up to it have been asked.
use Rattle.std.proofs.Common.{refl, arith}
use Rattle.audit.proofs.ReplayLemmas.{replayed_at, cut_at}
use Rattle.audit.proofs.replaying.replay.Goals as goal

pub returns-in-Err-clause-err : goal.returns-in-Err-clause-err
returns-in-Err-clause-err g c = λ first h is.
    let s = c.ask-next.ensures in
    cut_at _ _ first h _ _ _ _ _ _ _ _ _ _ c.loop-call-test.true refl _ _ c.loop-call.auto.buffer
    (c.loop-call.invariant.1 first h is) (s.agrees first) (s.lawful first) (s.due first)

pub loop-call-preserved : goal.loop-call-preserved
loop-call-preserved g c = (
  omega (arith, c.loop-call.invariant.0, c.in_default.ensures.each),
  λ first h is.
      let s = c.ask-next.ensures in
      rw c.in_default.ensures.told
      (replayed_at _ _ first h _ _ _ _ _ _ _ _ _ _ c.loop-call-test.true refl _ _ c.loop-call.auto.buffer
      (c.loop-call.invariant.1 first h is) (s.agrees first) (s.lawful first) (s.due first)),
)
