-- Where nodes stand: m lines with n nodes each have the nodes 0 to m * n - 1, line after line.
use Rattle.std.specs.Prelude.{ℕ, ◌*◌, ◌/◌, ◌%◌, Bool, cond, Some, None, Option, nat_lt}

abbrev pub is_node : ℕ → ℕ → ℕ → Bool
is_node m n v = nat_lt v (m * n)

-- the line of a node and its port there; none where it is not a node
abbrev pub place : ℕ → ℕ → ℕ → Option (ℕ × ℕ)
place m n v = cond (is_node m n v) (Some (v / n, v % n)) None
