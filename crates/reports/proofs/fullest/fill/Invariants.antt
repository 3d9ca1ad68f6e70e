-- The loads up to here stand at their places.
use Rattle.std.proofs.Common.{◌≡◌, ℕ, ◌<◌, slice_index, slice_index_or}
use Rattle.reports.proofs.fullest.fill.Given as goal

abbrev pub invariant-loop-round : goal.invariant-loop-round
invariant-loop-round l = (k : ℕ) → k < l.round → slice_index_or l.loads k (record { round = 0; count = 0 }) ≡ record { round = k; count = slice_index l.counts k }
