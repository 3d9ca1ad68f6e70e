-- What a call that asks for memory answers.
use Rattle.std.specs.Prelude.{◌≡◌, true, is_ok, Ok, Err, Result}
use Rattle.failure.specs.declared.Failure.{Failure}
use Rattle.failure.specs.declared.Failure.TheVariants.{Refused, OutOfMemory}

-- what it answers, read by f, and its refusal, read by g, is what is due; want of memory is answered only where no
-- refusal is due
abbrev pub AnswersBy : {A B R S : Type 0} → (R → S) → (A → B) → Result A (Failure R) → Result B S → Type 0
AnswersBy g f (Ok a) due = Ok (f a) ≡ due
AnswersBy g f (Err (Refused e)) due = Err (g e) ≡ due
AnswersBy g f (Err OutOfMemory) due = is_ok due ≡ true
