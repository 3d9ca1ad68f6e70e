-- What the ways of an arrangement say of the bytes, and of what C is told.
use Rattle.std.proofs.Common.{◌≡◌, ℕ, ◌%◌, ◌≤◌, Bool, ◌≢◌, eqb, List, length, get_or, Some, None, Ok, Err, Option, Result, MatchResult, sym, ap, ◌∙◌, subst, refl, arith}
use Rattle.std.proofs.lemmas.Bool.{cond-true, eq-eqb}
use Rattle.lines.specs.declared.line.Line.{Line}
use Rattle.lines.specs.declared.refusal.ArrangeRefusal.{ArrangeRefusal}
use Rattle.lines.specs.declared.refusal.ArrangeRefusal.TheVariants.{NotServed, TooManyLines, EndAbove, Crowded}
use Rattle.lines.specs.Refusals.{Refusal, refusal, told}
use Rattle.failure.specs.declared.Failure.{Failure}
use Rattle.failure.specs.declared.Failure.TheVariants.{Refused, OutOfMemory}
use Rattle.exports.specs.declared.error.BytesRefusal.{BytesRefusal}
use Rattle.exports.specs.declared.error.BytesRefusal.TheVariants.{BrokenLine, Lines}
use Rattle.exports.specs.Bytes.{Repeats, lines_of, number_of, refusal_in, answer_due, Repeated, Recoloured, Rewritten, Rewrites, Outcome, code_of}
use Rattle.exports.proofs.Written.{same_bytes}

-- no refusal has the number 0
numbered : (e : ArrangeRefusal) → 1 ≤ (refusal e).number
numbered NotServed = omega arith
numbered TooManyLines = omega arith
numbered EndAbove = omega arith
numbered (Crowded s v) = omega arith

module _ (times : ℕ) (served : Bool) (c : ℕ) (bs : List ℕ) where
  answer_is : (o : Option Refusal) → length bs % 5 ≡ 0 → refusal_in times served c (lines_of bs) ≡ o → number_of o ≡ answer_due times served c bs
  answer_is o whole e =
      ap number_of (sym e)
      ∙ sym (cond-true (eqb (length bs % 5) 0) (number_of (refusal_in times served c (lines_of bs))) 255 (eq-eqb (length bs % 5) 0 whole))

  -- an answer that is not 0 and with which no byte changes
  stays : (r : ℕ) → (r ≢ 255 → r ≡ answer_due times served c bs) → 1 ≤ r → (ds : List ℕ) → ds ≡ bs → Outcome times served c bs ds r
  stays r is some ds same =
      record {
        answer = is;
        unchanged = λ _. same;
        idle = λ _. same;
        arranged = λ z. absurd (omega arith);
        ends = λ k _. ap (λ (xs : List ℕ). get_or xs k 0) same;
      }

  -- what the code tells is what the answer says
  pub outcome : {A : Type 0} (r : Result A (Failure BytesRefusal)) (ds : List ℕ) → Rewrites r times served c bs ds → Outcome times served c bs ds (code_of r)
  outcome (Ok _) ds w =
      record {
        answer = λ _. answer_is None w.whole w.accepted;
        unchanged = λ z. absurd (z refl);
        idle = w.idle;
        arranged = λ _ l. w.lines.arranged l;
        ends = w.ends;
      }
  outcome (Err (Refused BrokenLine)) ds w = stays 255 (λ z. absurd (z refl)) (omega arith) ds w.1
  outcome (Err (Refused (Lines e))) ds w = stays (refusal e).number (λ _. answer_is (Some (refusal e)) w.whole w.refused) (numbered e) ds w.same
  outcome (Err OutOfMemory) ds w = stays 255 (λ z. absurd (z refl)) (omega arith) ds w.1

-- lines that are arranged and stand in the bytes again
pub rewritten : (times : ℕ) (served : Bool) (c : ℕ) (bs ds : List ℕ) (ls : List Line) → length bs % 5 ≡ 0 → length ds ≡ length bs → None ≡ refusal_in times served c (lines_of bs) → Repeated times c (lines_of bs) ls → Recoloured ls bs ds → Rewritten times served c bs ds
rewritten times served c bs ds ls whole size due so to =
    record {
      whole = whole;
      accepted = sym due;
      lines = subst (λ (ms : List Line). Repeated times c (lines_of bs) ms) (sym to.lines) so;
      ends = to.ends;
      idle = λ z. same_bytes bs ds size (record { lines = to.lines ∙ so.idle z; ends = to.ends });
    }

-- calls of which no refusal is told
pub accepted : (P : Unit {0} → Type 0) (r : Result (Unit {0}) ArrangeRefusal) (due : Option Refusal) (times c : ℕ) (before after : List Line) → MatchResult r P (λ e. ⊥) → told r ≡ due → Repeats r times c before after → (None ≡ due) × Repeated times c before after
accepted P (Ok x) due times c before after m e so = (e, so)
accepted P (Err x) due times c before after m e so = absurd m
