-- Steps in which the text of a trace grows.
use Rattle.std.proofs.Common.{◌≡◌, ℕ, ◌+◌, ◌<◌, ◌≤◌, List, [], ◌++◌, length, get_or, take, is_ok, Ok, Err, Result, refl, sym, ap, ◌∙◌, add-one, arith}
use Rattle.std.proofs.lemmas.List.{flat_map_more, take_more}
use Rattle.crossbar.specs.declared.wires.Wire.{Wire}
use Rattle.crossbar.specs.declared.wires.Wire.TheVariants.{FromNode}
use Rattle.failure.specs.declared.Failure.{Failure}
use Rattle.failure.specs.declared.Failure.TheVariants.{Refused, OutOfMemory}
use Rattle.crossbar.specs.declared.refusal.RouteRefusal.{RouteRefusal}
use Rattle.crossbar.specs.Refusals.{Refusal, Answers}
use Rattle.ports.specs.Checks.{transfer_checked}
use Rattle.cabinet.specs.Wiring.{Meaning}
use Rattle.cabinet.specs.Laws.{Placed, path}
use Rattle.tracer.specs.Delivered.{delivered}
use Rattle.cabinet.proofs.Accepted.{accepted, told_of}
use Rattle.tracer.specs.Lines.{crossing, crossings, line_text, line_due, lines_text, lines_due}

-- one wire more
pub wire_more : (k : Meaning) (ws : List Wire) (i : ℕ) (before after : List ℕ) → i < length ws → before ≡ crossings k (take i ws) →
    after ≡ before ++ crossing k (get_or ws i (FromNode 0)) → after ≡ crossings k (take (i + 1) ws)
wire_more k ws i before after h b a =
    a ∙ ap (λ (t : List ℕ). t ++ crossing k (get_or ws i (FromNode 0))) b
    ∙ flat_map_more (crossing k) [] (take i ws) (get_or ws i (FromNode 0))
    ∙ ap (crossings k) (sym (take_more ws i (FromNode 0) h))

-- one line more
pub line_more : (k : Meaning) (s r j : ℕ) → lines_text k s r (j + 1) ≡ lines_text k s r j ++ line_text j (k.header s r j) (crossings k (path k s r j)) r
line_more k s r j = rw add-one refl

-- a transfer that passed its tests: the line of every spine is due, and so are the lines of all
module _ (k : Meaning) (m n s r : ℕ) (passed : Ok tt ≡ transfer_checked m n s r 0) where
  pub line_is : (j : ℕ) → j < n → line_due k m n s r j ≡ Ok (line_text j (k.header s r j) (crossings k (path k s r j)) r)
  unfolding delivered
  line_is j h =
      let p = accepted m n s r 0 passed in
      let q : Placed m n s r j = record { lines = p.lines; nodes = p.nodes; sender = p.sender; receiver = p.receiver; spine = h } in
      ap (λ (t : Result (Unit {0}) Refusal). elim (elim t as (λ _. Result ((ℕ × ℕ × ℕ) × List Wire × ℕ) Refusal) [ Err e ↦ Err e | Ok _ ↦ Ok (k.header s r j, path k s r j, r) ]) as (λ _. Result (List ℕ) Refusal)
      [ Err e ↦ Err e | Ok x ↦ Ok (line_text j x.0 (crossings k x.1) x.2) ]) (told_of q)

  lines_are : lines_due k m n s r ≡ Ok (lines_text k s r n)
  unfolding lines_due
  lines_are = ap (λ (t : Result (Unit {0}) Refusal). elim t as (λ _. Result (List ℕ) Refusal) [ Err e ↦ Err e | Ok _ ↦ Ok (lines_text k s r n) ]) (sym passed)

  pub lines_told : (j : ℕ) (text : List ℕ) → j ≤ n → n ≤ j → text ≡ lines_text k s r j → Ok text ≡ lines_due k m n s r
  lines_told j text h i e = let all : j ≡ n = omega arith in ap Ok (e ∙ ap (lines_text k s r) all) ∙ sym lines_are

  -- a line that was not answered was short of memory
  pub lines_failed : {A : Type 0} (f : A → List ℕ) (x : Failure RouteRefusal) (j : ℕ) → j < n → Answers f (Err x) (line_due k m n s r j) → Answers f (Err x) (lines_due k m n s r)
  lines_failed f (Refused e) j h l = let due = line_is j h in let z : ◌≡◌ {A = ℕ} 0 1 = cc in absurd (omega arith)
  lines_failed f OutOfMemory j h l = ap is_ok lines_are
