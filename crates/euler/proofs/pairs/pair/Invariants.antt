-- The lines up to here are paired.
use Rattle.std.proofs.Common.{◌≡◌, ℕ}
use Rattle.lines.specs.Lines.{ends, end_at, other}
use Rattle.euler.specs.Pairs.{at, partner}
use Rattle.euler.proofs.Pairing.{Pairing}
use Rattle.euler.proofs.pairs.pair.Given as goal

abbrev pub invariant-loop-k : goal.invariant-loop-k
invariant-loop-k l = record {
  paired : Pairing (end_at (ends l.bounded.lines.now) l.side) (at l.single) (partner l.partners l.side) l.k;
  others : (u : ℕ) → partner l.partners (other l.side) u ≡ partner l.initial.partners (other l.side) u;
}
