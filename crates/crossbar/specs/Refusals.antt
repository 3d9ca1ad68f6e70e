-- What a caller is told of a refusal: its number, and the node that it is about, where it is about one.
use Rattle.std.specs.Prelude.{ℕ, List, Some, None, Ok, Err, Option, Result}
use Rattle.std.specs.Borrow.{Bor}
use Rattle.failure.specs.declared.Failure.{Failure}
use Rattle.crossbar.specs.declared.refusal.RouteRefusal.{RouteRefusal}
use Rattle.crossbar.specs.declared.refusal.RouteRefusal.TheVariants.{LineCount, NodeCount, Sender, Receiver, TopBits, NoWire, BytesEnd, Spine}
use Rattle.failure.specs.Failures.{AnswersBy}

pub record Refusal : Type 0 where
  pub number : ℕ
  pub node : Option ℕ

-- every case of the code's enum, by its number and its values
abbrev pub refusal : RouteRefusal → Refusal
refusal LineCount = record { number = 1; node = None }
refusal NodeCount = record { number = 2; node = None }
refusal (Sender v) = record { number = 6; node = Some v }
refusal (Receiver v) = record { number = 7; node = Some v }
refusal TopBits = record { number = 27; node = None }
refusal NoWire = record { number = 28; node = None }
refusal BytesEnd = record { number = 29; node = None }
refusal Spine = record { number = 30; node = None }

-- refused by a number, and by a number with the node that it is about
abbrev pub refuse : {A : Type 0} → ℕ → Result A Refusal
refuse number = Err (record { number = number; node = None })

abbrev pub refuse_node : {A : Type 0} → ℕ → ℕ → Result A Refusal
refuse_node number v = Err (record { number = number; node = Some v })

-- a call's answer, as a caller is told it, where f tells of its refusals
abbrev pub told_by : {A E : Type 0} → (E → Refusal) → Result A E → Result A Refusal
told_by f (Ok a) = Ok a
told_by f (Err e) = Err (f e)

-- that of a walk or a header
abbrev pub told : {A : Type 0} → Result A RouteRefusal → Result A Refusal
told r = told_by refusal r

-- the same where a part of the caller's bytes comes with the answer
abbrev pub told_rest : {A : Type 0} → Result (A × Bor (List ℕ)) RouteRefusal → Result (A × List ℕ) Refusal
told_rest (Ok a) = Ok (a.0, a.1.now)
told_rest (Err e) = Err (refusal e)

-- the same of a call that asks for memory: what it answers, read by f, is what is due
abbrev pub Answers : {A B : Type 0} → (A → B) → Result A (Failure RouteRefusal) → Result B Refusal → Type 0
Answers f r due = AnswersBy refusal f r due
