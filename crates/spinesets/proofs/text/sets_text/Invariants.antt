-- The spines up to here have their lines.
use Rattle.std.proofs.Common.{◌≡◌, string_bytes}
use Rattle.spinesets.specs.Text.{sets_text}
use Rattle.spinesets.proofs.text.sets_text.Given as goal

abbrev pub invariant-loop-spine : goal.invariant-loop-spine
invariant-loop-spine l = string_bytes l.text ≡ sets_text l.spine l.assigned
