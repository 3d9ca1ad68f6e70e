-- A header sent off: its bytes, the wires of its route, and the receiver, which it reaches.
use Rattle.std.specs.Prelude.{ℕ, List, Ok, Err, vec_items, Result}
use Rattle.crossbar.specs.declared.wires.Wire.{Wire}
use Rattle.crossbar.specs.Refusals.{Refusal}
use Rattle.ports.specs.Checks.{transfer_checked}
use Rattle.tracer.specs.declared.delivery.Delivery.{Delivery}
use Rattle.cabinet.specs.Wiring.{Meaning}
use Rattle.cabinet.specs.Laws.{path}

unfoldable pub delivered : Meaning → ℕ → ℕ → ℕ → ℕ → ℕ → Result ((ℕ × ℕ × ℕ) × List Wire × ℕ) Refusal
delivered k m n s r j = elim (transfer_checked m n s r j) [ Err e ↦ Err e | Ok _ ↦ Ok (k.header s r j, path k s r j, r) ]

-- a delivery as it is handed out
abbrev pub delivery_told : Delivery → (ℕ × ℕ × ℕ) × List Wire × ℕ
delivery_told d = (d.header, vec_items d.wires, d.node)
