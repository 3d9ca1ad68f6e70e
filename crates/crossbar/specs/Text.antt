-- Numbers, switches, wires, far ends and refusals in words.
use Rattle.std.specs.Prelude.{ℕ, ◌+◌, ◌/◌, ◌%◌, cond, List, [], ◌∷◌, ◌++◌, Some, None, codes, decimal, Option, nat_lt}
use Rattle.std.specs.Fmt.{signed_decimal}
use Rattle.crossbar.specs.declared.wires.Switch.{Switch}
use Rattle.crossbar.specs.declared.wires.Switch.TheVariants.{Line, Send, Spine, Receive}
use Rattle.crossbar.specs.declared.wires.Wire.{Wire}
use Rattle.crossbar.specs.declared.wires.Wire.TheVariants.{FromNode, FromExit}
use Rattle.crossbar.specs.declared.wires.FarEnd.{FarEnd}
use Rattle.crossbar.specs.declared.wires.FarEnd.TheVariants.{Node, Entry}
use Rattle.crossbar.specs.declared.wires.Hop.{Hop}
use Rattle.crossbar.specs.Refusals.{Refusal}

-- the low four bits of a value as a digit, A to F in capitals
abbrev pub hex_digit : ℕ → ℕ
hex_digit v = cond (nat_lt (v % 16) 10) (48 + v % 16) (55 + v % 16)

-- a byte in two hexadecimal digits
abbrev pub hex : ℕ → List ℕ
hex b = hex_digit (b / 16) ∷ hex_digit b ∷ []

-- a number in at least two decimal digits
abbrev pub two_digits : ℕ → List ℕ
two_digits v = decimal (v / 10) ++ decimal (v % 10)

-- a number below 100,000 in five decimal digits
abbrev pub five_digits : ℕ → List ℕ
five_digits v = two_digits (v / 1000) ++ (decimal (v / 100 % 10) ++ (decimal (v / 10 % 10) ++ decimal (v % 10)))

abbrev pub switch_text : Switch → List ℕ
switch_text (Line w) = codes "line " ++ decimal w
switch_text (Send w) = codes "send " ++ decimal w
switch_text (Spine j) = codes "spine " ++ decimal j
switch_text (Receive w) = codes "receive " ++ decimal w

abbrev pub wire_text : Wire → List ℕ
wire_text (FromNode v) = codes "node " ++ decimal v
wire_text (FromExit s x) = switch_text s ++ (codes " exit " ++ signed_decimal x)

abbrev pub end_text : FarEnd → List ℕ
end_text (Node v) = codes "node " ++ decimal v
end_text (Entry s p) = switch_text s ++ (codes " entry " ++ decimal p)

abbrev pub hop_text : Hop → List ℕ
hop_text h = wire_text h.wire ++ (codes " -> " ++ end_text h.end)

abbrev pub node_text : Option ℕ → List ℕ
node_text None = []
node_text (Some v) = codes " node " ++ decimal v

abbrev pub refusal_text : Refusal → List ℕ
refusal_text e = codes "refused " ++ (two_digits e.number ++ node_text e.node)
