-- The loop of `quote`: its invariant.
use Rattle.std.proofs.Common.{◌≡◌, ◌++◌, take, string_bytes}
use Rattle.std.specs.List.{flat_map}
use Rattle.listings.specs.Quoted.{escaped}
use Rattle.listings.proofs.quoted.quote.Given as goal

-- the bytes so far stand behind the text that there was
abbrev pub invariant-loop-byte : goal.invariant-loop-byte
invariant-loop-byte l = string_bytes l.text ≡ string_bytes l.initial.text ++ flat_map escaped (take l.byte-index l.bytes)
