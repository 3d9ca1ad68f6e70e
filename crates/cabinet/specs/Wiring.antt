-- What a cabinet kind means at its sizes, and the walk and the route of a packet, for every kind alike.
use Rattle.std.specs.Prelude.{ℕ, List, [], ◌∷◌, ℤ, Some, None, Ok, Err, vec_items, Option, Result}
use Rattle.crossbar.specs.declared.wires.Switch.{Switch}
use Rattle.crossbar.specs.declared.wires.Wire.{Wire}
use Rattle.crossbar.specs.declared.wires.Wire.TheVariants.{FromNode, FromExit}
use Rattle.crossbar.specs.declared.wires.FarEnd.{FarEnd}
use Rattle.crossbar.specs.declared.wires.FarEnd.TheVariants.{Node, Entry}
use Rattle.crossbar.specs.declared.wires.Hop.{Hop}
use Rattle.crossbar.specs.declared.wires.Route.{Route}
use Rattle.crossbar.specs.Refusals.{Refusal, refuse}
use Rattle.ports.specs.Checks.{sender_checked, transfer_checked}

pub record Meaning : Type 0 where
  -- the far end of a wire, or none where no such wire is
  pub far_end : Wire → Option FarEnd
  -- the exit that a byte names at an entry, or none
  pub exit : ℕ → ℕ → Option ℤ
  -- the header of a sender, a receiver and a spine: three route bytes
  pub header : ℕ → ℕ → ℕ → ℕ × ℕ × ℕ

-- a switch reads one byte of a packet that came in at an entry
abbrev pub hop : Meaning → Switch → ℕ → ℕ → Result Hop Refusal
hop k s p b = elim (k.exit p b) [ None ↦ refuse 27 | Some x ↦ elim (k.far_end (FromExit s x)) [ None ↦ refuse 28 | Some e ↦ Ok (record { wire = FromExit s x; end = e }) ] ]

-- the walk from the far end of a wire on: each switch eats one byte, and a node ends the walk
abbrev pub walk_on : Meaning → FarEnd → List ℕ → Result (ℕ × List ℕ) Refusal
walk_on k (Node v) bytes = Ok (v, bytes)
walk_on k (Entry s p) [] = refuse 29
walk_on k (Entry s p) (b ∷ bs) = elim (hop k s p b) [ Err e ↦ Err e | Ok h ↦ walk_on k h.end bs ]

-- the node that bytes lead to from a sender, and the bytes that no switch has eaten
abbrev pub walk : Meaning → ℕ → List ℕ → Result (ℕ × List ℕ) Refusal
walk k s bytes = elim (k.far_end (FromNode s)) [ None ↦ refuse 28 | Some e ↦ walk_on k e bytes ]

-- the wires that the same walk crosses, in order
abbrev pub route_on : Meaning → FarEnd → List ℕ → List Wire
route_on k (Node v) bytes = []
route_on k (Entry s p) [] = []
route_on k (Entry s p) (b ∷ bs) = elim (hop k s p b) [ Err e ↦ [] | Ok h ↦ h.wire ∷ route_on k h.end bs ]

-- with the sender's own wire first
abbrev pub route : Meaning → ℕ → List ℕ → List Wire
route k s bytes = elim (k.far_end (FromNode s)) [ None ↦ [] | Some e ↦ FromNode s ∷ route_on k e bytes ]

-- the three bytes of a header, as a packet carries them
abbrev pub bytes_of : ℕ × ℕ × ℕ → List ℕ
bytes_of h = h.0 ∷ h.1 ∷ h.2 ∷ []

-- ---- the calls: first their tests, then their answers

abbrev pub eaten : List ℕ → Result (ℕ × List ℕ) Refusal
eaten [] = refuse 29
eaten (b ∷ bs) = Ok (b, bs)

abbrev pub hopped : Meaning → Switch → ℕ → List ℕ → Result (Hop × List ℕ) Refusal
hopped k s p bytes = elim (eaten bytes) [ Err e ↦ Err e | Ok a ↦ elim (hop k s p a.0) [ Err e ↦ Err e | Ok h ↦ Ok (h, a.1) ] ]

abbrev pub walked : Meaning → ℕ → ℕ → ℕ → List ℕ → Result (ℕ × List ℕ) Refusal
walked k m n s bytes = elim (sender_checked m n s) [ Err e ↦ Err e | Ok _ ↦ walk k s bytes ]

abbrev pub headed : Meaning → ℕ → ℕ → ℕ → ℕ → ℕ → Result (ℕ × ℕ × ℕ) Refusal
headed k m n s r j = elim (transfer_checked m n s r j) [ Err e ↦ Err e | Ok _ ↦ Ok (k.header s r j) ]

-- the wires crossed, the node reached and the bytes not eaten, of a walk that ends at a node
abbrev pub routed : Meaning → ℕ → ℕ → ℕ → List ℕ → Result (List Wire × ℕ × List ℕ) Refusal
routed k m n s bytes = elim (walked k m n s bytes) [ Err e ↦ Err e | Ok a ↦ Ok (route k s bytes, a.0, a.1) ]

-- a route as it is handed out
abbrev pub route_told : Route → List Wire × ℕ × List ℕ
route_told a = (vec_items a.wires, a.node, a.unread.now)
