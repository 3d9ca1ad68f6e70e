-- The counts of colours that the chain arranger serves.
use Rattle.std.specs.Prelude.{ℕ, Bool, ◌&&◌, nat_le}

-- every count from 1 to 64
abbrev pub chain_serves : ℕ → Bool
chain_serves c = nat_le 1 c && nat_le c 64
