-- The invariant of repeat.
use Rattle.std.proofs.Common.{◌≡◌, ◌*◌, length, None}
use Rattle.lines.specs.Arrangers.{grown}
use Rattle.exports.specs.Bytes.{refusal_in, Repeated}
use Rattle.exports.proofs.arrange.repeat.Given as goal

abbrev pub invariant-loop-done : goal.invariant-loop-done
invariant-loop-done g l = record {
  accepted : refusal_in l._done (g.A.Arranger.served l.c) l.c l.initial.lines ≡ None;
  lines : Repeated l._done l.c l.initial.lines l.lines;
  meter : g.A.Arranger.shows l.arranger ≡ grown (g.A.Arranger.shows l.initial.arranger) (l._done * length l.initial.lines);
}
