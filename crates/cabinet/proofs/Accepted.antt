-- What an accepted call tells of its arguments.
use Rattle.std.proofs.Common.{◌≡◌, ℕ, ◌*◌, Bool, true, cond, ltb, List, Ok, Err, Result, refl, ap, ◌∙◌, arith, ltb-true, lt-ltb}
use Rattle.crossbar.specs.Refusals.{Refusal, refuse, refuse_node}
use Rattle.ports.specs.Checks.{lines_fit, nodes_fit, sizes_checked, sender_checked, transfer_checked}
use Rattle.cabinet.specs.Laws.{Placed}
use Rattle.cabinet.specs.Wiring.{Meaning, headed, walked, walk}

-- a chain of tests that came to the end passed them all
all_passed : (l p s r j : Bool) (a b : ℕ) → Ok tt ≡
    (let sizes : Result (Unit {0}) Refusal = cond l (cond p (Ok tt) (refuse 2)) (refuse 1) in
    let sender : Result (Unit {0}) Refusal = elim sizes [ Err e ↦ Err e | Ok _ ↦ cond s (Ok tt) (refuse_node 6 a) ] in
    let whole : Result (Unit {0}) Refusal = elim sender [ Err e ↦ Err e | Ok _ ↦ cond r (cond j (Ok tt) (refuse 30)) (refuse_node 7 b) ] in whole) →
    (l ≡ true) × (p ≡ true) × (s ≡ true) × (r ≡ true) × (j ≡ true)
all_passed l p s r j a b h = (grind arith, grind arith, grind arith, grind arith, grind arith)

pub accepted : (m n s r j : ℕ) → Ok tt ≡ transfer_checked m n s r j → Placed m n s r j
accepted m n s r j h =
    let q = all_passed (lines_fit m) (nodes_fit n) (ltb s (m * n)) (ltb r (m * n)) (ltb j n) s r h in
    record { lines = q.0; nodes = q.1; sender = ltb-true s (m * n) q.2; receiver = ltb-true r (m * n) q.3; spine = ltb-true j n q.4 }

-- a call that goes on after its tests
pub through : {X : Type 0} (t : Result (Unit {0}) Refusal) (x y : X) → Ok y ≡ (elim t as (λ _. Result X Refusal) [ Err e ↦ Err e | Ok _ ↦ Ok x ]) → (Ok tt ≡ t) × (y ≡ x)
through (Ok u) x y h = (refl, cc)
through (Err e) x y h = let z : ◌≡◌ {A = ℕ} 0 1 = cc in absurd (omega arith)

pub header_told : (k : Meaning) (m n s r j : ℕ) (h : ℕ × ℕ × ℕ) → Ok h ≡ headed k m n s r j → Placed m n s r j × (h ≡ k.header s r j)
header_told k m n s r j h e = let q = through (transfer_checked m n s r j) (k.header s r j) h e in (accepted m n s r j q.0, q.1)

-- the other way: what is in order is accepted
module _ {m n s r j : ℕ} (p : Placed m n s r j) where
  sizes_of : sizes_checked m n ≡ Ok tt
  sizes_of = ap (λ t. cond t (cond (nodes_fit n) (Ok tt) (refuse 2)) (refuse 1)) p.lines ∙ ap (λ t. cond t (Ok tt) (refuse 2)) p.nodes

  sender_of : sender_checked m n s ≡ Ok tt
  sender_of =
      ap (λ (t : Result (Unit {0}) Refusal). elim t as (λ _. Result (Unit {0}) Refusal) [ Err e ↦ Err e | Ok _ ↦ cond (ltb s (m * n)) (Ok tt) (refuse_node 6 s) ]) sizes_of ∙
      ap (λ t. cond t (Ok tt) (refuse_node 6 s)) (lt-ltb s (m * n) p.sender)

  pub told_of : transfer_checked m n s r j ≡ Ok tt
  told_of =
      ap (λ (t : Result (Unit {0}) Refusal). elim t as (λ _. Result (Unit {0}) Refusal) [ Err e ↦ Err e | Ok _ ↦ cond (ltb r (m * n)) (cond (ltb j n) (Ok tt) (refuse 30)) (refuse_node 7 r) ]) sender_of ∙
      ap (λ t. cond t (cond (ltb j n) (Ok tt) (refuse 30)) (refuse_node 7 r)) (lt-ltb r (m * n) p.receiver) ∙
      ap (λ t. cond t (Ok tt) (refuse 30)) (lt-ltb j n p.spine)

  pub walked_placed : (k : Meaning) (bytes : List ℕ) → walked k m n s bytes ≡ walk k s bytes
  walked_placed k bytes =
      ap (λ (t : Result (Unit {0}) Refusal). elim t as (λ _. Result (ℕ × List ℕ) Refusal) [ Err e ↦ Err e | Ok _ ↦ walk k s bytes ]) sender_of
