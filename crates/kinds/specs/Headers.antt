-- The header of a transfer, for any kind that reaches each spine by one port of a line, the same up and down.
use Rattle.std.specs.Prelude.{ℕ, ◌/◌, ◌%◌, Ok, Err, Result}
use Rattle.crossbar.specs.Refusals.{Refusal}
use Rattle.ports.specs.Bytes.{turn}
use Rattle.ports.specs.Checks.{transfer_checked}

-- from the sender's port to the port of the spine, from line to line at the spine, and out at the receiver's port
abbrev pub header_by : ℕ → ℕ → ℕ → ℕ → ℕ × ℕ × ℕ
header_by n s r port = (turn (s % n) port, turn (s / n) (r / n), turn port (r % n))

-- the same after the tests of the transfer and its spine
abbrev pub headed_by : ℕ → ℕ → ℕ → ℕ → ℕ → ℕ → Result (ℕ × ℕ × ℕ) Refusal
headed_by m n s r j port = elim (transfer_checked m n s r j) [ Err e ↦ Err e | Ok _ ↦ Ok (header_by n s r port) ]
