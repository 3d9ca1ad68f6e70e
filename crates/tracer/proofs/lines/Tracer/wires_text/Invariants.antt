-- The loop of `wires_text`: its invariant.
use Rattle.std.proofs.Common.{◌≡◌, take, string_bytes}
use Rattle.tracer.specs.Lines.{crossings}
use Rattle.tracer.proofs.lines.Tracer.wires_text.Given as goal

-- the text so far is that of the wires so far
abbrev pub invariant-loop-wire : goal.invariant-loop-wire
invariant-loop-wire g l = string_bytes l.text ≡ crossings (g.K.Cabinet.meaning l.self.sizes.m l.self.sizes.n) (take l.wire-index l.wires)
