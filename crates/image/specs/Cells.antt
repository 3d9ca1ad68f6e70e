-- The cells of an image, and what stands in them. A cell is 16 bytes; two-byte fields have the low byte first.
use Rattle.std.specs.Prelude.{ℕ, ◌+◌, ◌*◌, ◌/◌, ◌%◌, Bool, ◌&&◌, cond, List, [], length, Some, None, Option, ◌==◌, nat_le, slice_index, slice_index_or}
use Rattle.std.specs.Simd.{first_chunks}
use Rattle.ports.specs.declared.transfer.Transfer.{Transfer}
use Rattle.image.specs.declared.head.Head.{Head}

-- byte i of a cell
abbrev pub byte : List ℕ → ℕ → ℕ
byte cell i = slice_index cell i

-- the field of two bytes that begins at byte i
abbrev pub word : List ℕ → ℕ → ℕ
word cell i = byte cell i + byte cell (i + 1) * 256

-- the cells of an image, each 16 bytes in their order
abbrev pub cells_of : List ℕ → List (List ℕ)
cells_of bytes = first_chunks 16 (length bytes / 16) bytes

-- the cell with the number c
abbrev pub cell_at : List (List ℕ) → ℕ → List ℕ
cell_at cells c = slice_index_or cells c []

-- whether a length is that of an image: a multiple of 16 from 16 to 32,768
abbrev pub is_image_length : ℕ → Bool
is_image_length n = nat_le 16 n && (nat_le n 32768 && (n % 16 == 0))

-- the mark 52 42 4B 31 of a head, and its spare bytes
abbrev pub is_head : List ℕ → Bool
is_head c =
    byte c 0 == 0x52 && (byte c 1 == 0x42 && (byte c 2 == 0x4B && (byte c 3 == 0x31 && (byte c 7 == 0 &&
    (byte c 10 == 0 && (byte c 11 == 0 && (byte c 12 == 0 && (byte c 13 == 0 && (byte c 14 == 0 && byte c 15 == 0)))))))))

-- what a head says
abbrev pub head_said : List ℕ → Head
head_said c = record { sizes = record { m = byte c 4; n = byte c 5 }; rounds = byte c 6; first = word c 8 }

-- the same, unless the mark or a spare byte is wrong
abbrev pub head_of : List ℕ → Option Head
head_of c = cond (is_head c) (Some (head_said c)) None

-- the index of the next cell that a record's cell holds
abbrev pub next_index : List ℕ → ℕ
next_index c = word c 2

-- the transfer of a transfer's cell
abbrev pub transfer_of : List ℕ → Transfer
transfer_of c = record { sender = word c 4; receiver = word c 6 }
