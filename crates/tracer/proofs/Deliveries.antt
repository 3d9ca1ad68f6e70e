-- A header that was answered arrives: the law of arrival, in the words of the calls.
use Rattle.std.proofs.Common.{◌≡◌, ℕ, List, [], ◌∷◌, Ok, Err, Result, sym, ap, ◌∙◌}
use Rattle.crossbar.specs.declared.wires.Wire.{Wire}
use Rattle.crossbar.specs.Refusals.{Refusal}
use Rattle.cabinet.specs.Wiring.{Meaning, headed, route, routed, bytes_of}
use Rattle.cabinet.specs.Laws.{Arrival, path}
use Rattle.tracer.specs.Delivered.{delivered}
use Rattle.cabinet.proofs.Accepted.{header_told, walked_placed, told_of}

module _ (kind : ℕ → ℕ → Meaning) (law : Arrival kind) (m n s r j a b c : ℕ) (e : Ok (a, b, c) ≡ headed (kind m n) m n s r j) where
  pub routed_there : routed (kind m n) m n s (a ∷ b ∷ c ∷ []) ≡ Ok (path (kind m n) s r j, r, [])
  routed_there =
      let q = header_told (kind m n) m n s r j (a, b, c) e in
      let bytes = bytes_of ((kind m n).header s r j) in
      ap (λ (h : ℕ × ℕ × ℕ). routed (kind m n) m n s (bytes_of h)) q.1
      ∙ ap (λ (t : Result (ℕ × List ℕ) Refusal). elim t as (λ _. Result (List Wire × ℕ × List ℕ) Refusal) [ Err f ↦ Err f | Ok x ↦ Ok (route (kind m n) s bytes, x.0, x.1) ])
      (walked_placed q.0 (kind m n) bytes ∙ (law m n s r j q.0).0)

  pub delivered_there : delivered (kind m n) m n s r j ≡ Ok ((a, b, c), path (kind m n) s r j, r)
  unfolding delivered
  delivered_there =
      let q = header_told (kind m n) m n s r j (a, b, c) e in
      ap (λ (t : Result (Unit {0}) Refusal). elim t as (λ _. Result ((ℕ × ℕ × ℕ) × List Wire × ℕ) Refusal) [ Err f ↦ Err f | Ok _ ↦ Ok ((kind m n).header s r j, path (kind m n) s r j, r) ]) (told_of q.0)
      ∙ ap (λ (h : ℕ × ℕ × ℕ). Ok (h, path (kind m n) s r j, r)) (sym q.1)
