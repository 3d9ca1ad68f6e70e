-- Worked examples, settled against the definitions.
use Rattle.std.specs.Prelude.{◌≡◌, [], ◌∷◌, pos, negsuc, Ok}
use Rattle.crossbar.specs.Refusals.{refuse}
use Rattle.ports.specs.Bytes.{route_byte}
use Rattle.cabinet.specs.Wiring.{headed, walked}
use Rattle.kinds.specs.Folded.{folded}
use Rattle.kinds.specs.Straight.{straight}

-- the bytes of the differences +11, -3, 0, +31 and -32
abbrev pub WorkedBytes : Type 0
WorkedBytes =
    (route_byte (pos 11) ≡ 0x8B) × (route_byte (negsuc 2) ≡ 0xBD) × (route_byte (pos 0) ≡ 0x80) ×
    (route_byte (pos 31) ≡ 0x9F) × (route_byte (negsuc 31) ≡ 0xA0)

-- three lines with four nodes each: node 5 to node 10 by spine 3
abbrev pub WorkedHeaders : Type 0
WorkedHeaders = (headed (folded 3 4) 3 4 5 10 3 ≡ Ok (0x86, 0x81, 0xBB)) × (headed (straight 3 4) 3 4 5 10 3 ≡ Ok (0x82, 0x81, 0xBF))

-- from node 5 of the same cabinets
abbrev pub WorkedWalks : Type 0
WorkedWalks =
    (walked (folded 3 4) 3 4 5 (0x81 ∷ 0xAA ∷ []) ≡ Ok (6, 0xAA ∷ [])) ×
    (walked (folded 3 4) 3 4 5 (0x9F ∷ []) ≡ refuse 28) ×
    (walked (folded 3 4) 3 4 5 (0x41 ∷ []) ≡ refuse 27) ×
    (walked (folded 3 4) 3 4 5 [] ≡ refuse 29) ×
    (walked (straight 3 4) 3 4 5 (0x81 ∷ []) ≡ refuse 29)

abbrev pub Worked : Type 0
Worked = WorkedBytes × WorkedHeaders × WorkedWalks
