-- The transfers up to here are written.
use Rattle.std.proofs.Common.{◌≡◌, take, string_bytes}
use Rattle.spinesets.specs.Text.{members}
use Rattle.spinesets.proofs.text.members.Given as goal

abbrev pub invariant-loop-one : goal.invariant-loop-one
invariant-loop-one l = string_bytes l.text ≡ members l.spine (take l.one-index l.assigned)
