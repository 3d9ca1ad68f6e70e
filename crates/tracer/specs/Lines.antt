-- The text of a trace, over what any cabinet kind means.
use Rattle.std.specs.Prelude.{ℕ, zero, suc, List, [], ◌++◌, Some, None, Ok, Err, codes, decimal, Result}
use Rattle.std.specs.List.{flat_map}
use Rattle.crossbar.specs.declared.wires.Wire.{Wire}
use Rattle.crossbar.specs.Refusals.{Refusal}
use Rattle.crossbar.specs.Text.{hex, two_digits, wire_text, hop_text}
use Rattle.ports.specs.Checks.{transfer_checked}
use Rattle.cabinet.specs.Wiring.{Meaning}
use Rattle.cabinet.specs.Laws.{path}
use Rattle.tracer.specs.Delivered.{delivered}

-- a wire with its two ends
abbrev pub crossing : Meaning → Wire → List ℕ
crossing k w = elim (k.far_end w) [ None ↦ wire_text w ++ codes " -> nowhere, " | Some e ↦ hop_text (record { wire = w; end = e }) ++ codes ", " ]

-- wires, one after the other
abbrev pub crossings : Meaning → List Wire → List ℕ
crossings k ws = flat_map (crossing k) ws

-- the line of a spine: the spine, the header's three bytes, the wires and the node reached
abbrev pub line_text : ℕ → ℕ × ℕ × ℕ → List ℕ → ℕ → List ℕ
line_text j h wires v =
    two_digits j ++ (codes " " ++ (hex h.0 ++ (codes " " ++ (hex h.1 ++ (codes " " ++ (hex h.2 ++ (codes "  " ++ (wires ++ (codes "reaches node " ++ (decimal v ++ codes "\n"))))))))))

-- what it says of a header that was sent off
abbrev pub line_due : Meaning → ℕ → ℕ → ℕ → ℕ → ℕ → Result (List ℕ) Refusal
line_due k m n s r j = elim (delivered k m n s r j) [ Err e ↦ Err e | Ok d ↦ Ok (line_text j d.0 (crossings k d.1) d.2) ]

-- the lines of the spines below j, in order; each says that the header reaches the receiver
abbrev pub lines_text : Meaning → ℕ → ℕ → ℕ → List ℕ
lines_text k s r zero = []
lines_text k s r (suc j) = lines_text k s r j ++ line_text j (k.header s r j) (crossings k (path k s r j)) r

unfoldable pub lines_due : Meaning → ℕ → ℕ → ℕ → ℕ → Result (List ℕ) Refusal
lines_due k m n s r = elim (transfer_checked m n s r 0) [ Err e ↦ Err e | Ok _ ↦ Ok (lines_text k s r n) ]

abbrev pub closing_text : ℕ → ℕ → ℕ → List ℕ
closing_text n s r = codes "spines traced: " ++ (decimal n ++ (codes ", each header leads from node " ++ (decimal s ++ (codes " to node " ++ (decimal r ++ codes "\n")))))

-- the lines of all n spines, and the closing line
abbrev pub trace_due : Meaning → ℕ → ℕ → ℕ → ℕ → Result (List ℕ) Refusal
trace_due k m n s r = elim (lines_due k m n s r) [ Err e ↦ Err e | Ok lines ↦ Ok (lines ++ closing_text n s r) ]
