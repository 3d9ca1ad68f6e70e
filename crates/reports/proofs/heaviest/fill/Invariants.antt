-- The loads up to here stand at their places.
use Rattle.std.proofs.Common.{◌≡◌, ℕ, ◌<◌, slice_index, slice_index_or}
use Rattle.reports.specs.declared.loads.TransferSide.TheVariants.{Sending}
use Rattle.reports.proofs.heaviest.fill.Given as goal

abbrev pub invariant-loop-node : goal.invariant-loop-node
invariant-loop-node l = (v : ℕ) → v < l.node → slice_index_or l.loads v (record { side = Sending; node = 0; count = 0 }) ≡ record { side = l.side; node = v; count = slice_index l.counts v }
