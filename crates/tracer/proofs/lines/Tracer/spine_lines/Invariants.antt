-- The loop of `spine_lines`: its invariant.
use Rattle.std.proofs.Common.{◌≡◌, string_bytes}
use Rattle.tracer.specs.Lines.{lines_text}
use Rattle.tracer.proofs.lines.Tracer.spine_lines.Given as goal

-- the text so far is that of the spines so far
abbrev pub invariant-loop-spine : goal.invariant-loop-spine
invariant-loop-spine g l = string_bytes l.text ≡ lines_text (g.K.Cabinet.meaning l.self.sizes.m l.self.sizes.n) l.transfer.sender l.transfer.receiver l.spine
