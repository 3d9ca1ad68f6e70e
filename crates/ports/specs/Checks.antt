-- The tests of sizes, nodes and spines, in the order in which a call makes them.
use Rattle.std.specs.Prelude.{ℕ, Bool, cond, ◌&&◌, ◌||◌, Ok, Err, Result, ◌==◌, nat_le, nat_lt}
use Rattle.ports.specs.Nodes.{is_node}
use Rattle.crossbar.specs.Refusals.{Refusal, refuse, refuse_node}

-- 1 to 32 line switches
abbrev pub lines_fit : ℕ → Bool
lines_fit m = nat_le 1 m && nat_le m 32

-- 1, 2, 4, 8 or 16 nodes on each
abbrev pub nodes_fit : ℕ → Bool
nodes_fit n = n == 1 || n == 2 || n == 4 || n == 8 || n == 16

-- 1, then 2
abbrev pub sizes_checked : ℕ → ℕ → Result (Unit {0}) Refusal
sizes_checked m n = cond (lines_fit m) (cond (nodes_fit n) (Ok tt) (refuse 2)) (refuse 1)

-- then 6
abbrev pub sender_checked : ℕ → ℕ → ℕ → Result (Unit {0}) Refusal
sender_checked m n s = elim (sizes_checked m n) [ Err e ↦ Err e | Ok _ ↦ cond (is_node m n s) (Ok tt) (refuse_node 6 s) ]

-- then 7 and 30
abbrev pub transfer_checked : ℕ → ℕ → ℕ → ℕ → ℕ → Result (Unit {0}) Refusal
transfer_checked m n s r j =
    elim (sender_checked m n s) [ Err e ↦ Err e | Ok _ ↦ cond (is_node m n r) (cond (nat_lt j n) (Ok tt) (refuse 30)) (refuse_node 7 r) ]
