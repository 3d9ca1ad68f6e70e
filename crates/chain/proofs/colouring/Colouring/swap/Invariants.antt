-- How far the exchange has come; with each step fewer lines have the colour that they had at first.
use Rattle.lines.specs.Lines.{ends}
use Rattle.chain.specs.Colourings.{Consistent}
use Rattle.chain.proofs.Laws.{Exchanging, unchanged}
use Rattle.chain.proofs.colouring.Colouring.swap.Given as goal

abbrev pub invariant-loop-next : goal.invariant-loop-next
invariant-loop-next l = record {
  consistent : Consistent (ends l.bounded.lines.now) l.self;
  exchanging : Exchanging l.bounded.lines.now l.fn.self l.self l.fn.end l.fn.a l.fn.b l.hand;
}

abbrev pub decreases-loop-next : goal.decreases-loop-next
decreases-loop-next l = unchanged l.fn.self l.self
