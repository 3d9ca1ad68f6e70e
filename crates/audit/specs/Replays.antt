-- What a book answers to the calls of a list, one after the other, and what it then is.
use Rattle.std.specs.Prelude.{◌≡◌, ℕ, Bool, List, ◌++◌, length}
use Rattle.std.specs.List.{zip}
use Rattle.cabinet.specs.Wiring.{Meaning}
use Rattle.audit.specs.History.{Asked, Told, History}
use Rattle.audit.specs.Law.{Lawful, Due}
use Rattle.audit.specs.States.{State, KindAndMeters, AgreesWith}

-- a book that agreed with the history h has been given some calls, and has answered so
pub record IsReplayed {K : Type 0} (kind : ℕ → ℕ → Meaning) (served : ℕ → Bool) (first : KindAndMeters K) (h : History) (calls : List Asked) (answers : List Told) (s : State) (p : KindAndMeters K) : Type 0 where
  -- there are as many answers as calls
  pub each : length answers ≡ length calls
  -- the book agrees with the history and these calls
  pub agrees : AgreesWith kind first (h ++ zip calls answers) s p
  -- and where the history was lawful, or due, so is it with these calls
  pub lawful : Lawful kind served h → Lawful kind served (h ++ zip calls answers)
  pub due : Due served h → Due served (h ++ zip calls answers)
