-- The lines up to here are dealt.
use Rattle.std.proofs.Common.{◌≡◌, length, take, filter}
use Rattle.euler.specs.Spreads.{is_low, is_high}
use Rattle.euler.proofs.colour.deal.Given as goal

abbrev pub invariant-loop-line : goal.invariant-loop-line
invariant-loop-line l = record {
  low : take l.low.count l.low.room.now ≡ filter is_low (take l.line-index l.lines);
  high : take l.high.count l.high.room.now ≡ filter is_high (take l.line-index l.lines);
  low_room : length l.low.room.now ≡ length l.lines;
  high_room : length l.high.room.now ≡ length l.lines;
}
