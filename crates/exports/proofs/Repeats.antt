-- Lines that are arranged again and again.
use Rattle.std.proofs.Common.{◌≡◌, ℕ, ◌*◌, ◌<◌, ◌≤◌, Bool, false, ◌||◌, eqb, ltb, List, [], ◌∷◌, Some, None, Option, sym, refl, ap, ◌∙◌, ⊎_elim, arith}
use Rattle.std.proofs.lemmas.Bool.{cases_lt, cond-false, ne_eqb}
use Rattle.lines.specs.declared.line.Line.{Line}
use Rattle.lines.specs.Lines.{ends}
use Rattle.lines.specs.Arrangers.{grown}
use Rattle.lines.specs.Refusals.{Refusal, end_above, refusal_due}
use Rattle.lines.proofs.Places.{same_length}
use Rattle.exports.specs.Bytes.{refusal_in, Repeated}

-- some end of the pairs is above 511
above_ends : List (ℕ × ℕ) → Bool
above_ends [] = false
above_ends (p ∷ ps) = (ltb 511 p.0 || ltb 511 p.1) || above_ends ps

end_above_ends : (ls : List Line) → end_above ls ≡ above_ends (ends ls)
unfolding above_ends
end_above_ends [] = refl
end_above_ends (l ∷ ls) = ap (λ (b : Bool). (ltb 511 l.left || ltb 511 l.right) || b) (end_above_ends ls)

-- the refusal that is due goes by the ends alone
pub due_same : (served : Bool) (c : ℕ) (ls ms : List Line) → ends ms ≡ ends ls → refusal_due served c ms ≡ refusal_due served c ls
due_same served c ls ms e =
    let above : end_above ms ≡ end_above ls = end_above_ends ms ∙ ap above_ends e ∙ sym (end_above_ends ls) in
    rw (same_length ls ms e, above, e) refl

-- the refusal that some calls meet
pub in_some : (n : ℕ) (served : Bool) (c : ℕ) (ls : List Line) → 1 ≤ n → refusal_in n served c ls ≡ refusal_due served c ls
in_some n served c ls l = cond-false (eqb n 0) None (refusal_due served c ls) (ne_eqb n 0 (λ z. omega arith))

-- lines as they stand after some calls have the ends that they had
pub ends_so : (i c : ℕ) (start ls : List Line) → Repeated i c start ls → ends ls ≡ ends start
ends_so i c start ls so =
    ⊎_elim (λ (q : i < 1). ap ends (so.idle (omega arith))) (λ (q : 1 ≤ i). (so.arranged q).same) (cases_lt i 1)

-- after i calls
module _ (served : Bool) (c i : ℕ) (start ls : List Line) (so : Repeated i c start ls) where
  due_so : refusal_due served c ls ≡ refusal_due served c start
  due_so = due_same served c start ls (ends_so i c start ls so)

  pub told_so : (n : ℕ) (o : Option Refusal) → i < n → o ≡ refusal_due served c ls → o ≡ refusal_in n served c start
  told_so n o l e = e ∙ due_so ∙ sym (in_some n served c start (omega arith))

  -- a refusal can come in the first call only
  pub first_so : (r : Refusal) → refusal_in i served c start ≡ None → Some r ≡ refusal_due served c ls → i ≡ 0
  first_so r none e =
      ⊎_elim
      (λ (q : i < 1). omega arith)
      (λ (q : 1 ≤ i).
      let x = in_some i served c start q in
      let y = due_so in
      absurd (let z : ◌≡◌ {A = ℕ} 0 1 = cc in omega arith))
      (cases_lt i 1)

-- before the first call the meter m is as it was
pub meter_first : (m n i x : ℕ) → m ≤ 4294967295 → x ≡ grown m (i * n) → i ≡ 0 → x ≡ m
meter_first m n i x stop e zero = e ∙ rw zero (omega arith)
