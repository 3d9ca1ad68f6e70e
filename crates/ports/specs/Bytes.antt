-- The route byte: two top bits 10, and six bits that hold the signed difference of two ports, exit less entry.
use Rattle.std.specs.Prelude.{ℕ, ◌+◌, ◌-◌, ◌/◌, ◌%◌, cond, ℤ, pos, negsuc, ◌+ℤ◌, ◌-ℤ◌, Some, None, Option, ◌==◌, nat_lt}

-- the byte of a difference: negsuc d is -(d + 1), whose low six bits are 63 less those of d
abbrev pub route_byte : ℤ → ℕ
route_byte (pos d) = 128 + d % 64
route_byte (negsuc d) = 128 + (63 - d % 64)

-- the low six bits of a byte, read as two's complement
abbrev pub difference : ℕ → ℤ
difference byte = cond (nat_lt (byte % 64) 32) (pos (byte % 64)) (negsuc (63 - byte % 64))

-- the exit that a byte names at an entry: none unless its top bits are 10
abbrev pub named_exit : ℕ → ℕ → Option ℤ
named_exit entry byte = cond (byte / 64 == 2) (Some (pos entry +ℤ difference byte)) None

-- the byte that leads from an entry to an exit
abbrev pub turn : ℕ → ℕ → ℕ
turn entry exit = route_byte (pos exit -ℤ pos entry)
