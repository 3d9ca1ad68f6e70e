-- The transfers up to here have their spines.
use Rattle.std.proofs.Common.{◌≡◌, take}
use Rattle.lines.specs.Lines.{colours}
use Rattle.spinesets.specs.Sharing.{transfers_of, spines_of}
use Rattle.spinesets.proofs.share.assign.Given as goal

abbrev pub invariant-loop-i : goal.invariant-loop-i
invariant-loop-i l = record {
  transfers : transfers_of l.assigned ≡ transfers_of l.initial.assigned;
  spines : take l.i (spines_of l.assigned) ≡ take l.i (colours l.lines);
}
