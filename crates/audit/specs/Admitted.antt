-- Histories that are lawful and due, whatever the kind, and whatever counts the round arranger serves beside 1.
use Rattle.std.specs.Prelude.{◌≡◌, ℕ, Bool, [], ◌∷◌, Ok}
use Rattle.crossbar.specs.Refusals.{refuse_node}
use Rattle.cabinet.specs.Wiring.{Meaning}
use Rattle.audit.specs.History.{book, load, seat, book_answer, load_answer, not_permitted, History, read_meter}
use Rattle.audit.specs.Entries.{fitted_to, booked_as, cancelled_from, needed, issued, reopened, seated_at, headed_by, issued_two_times, one_transfer}
use Rattle.audit.specs.Law.{Lawful, Due}

-- a history keeps what is promised, and each answer in it is the one due
abbrev pub Keeps : (ℕ → ℕ → Meaning) → (ℕ → Bool) → History → Type 0
Keeps kind served h = Lawful kind served h × Due served h

-- each of these keeps the law
pub record Admitted (kind : ℕ → ℕ → Meaning) (served : ℕ → Bool) : Type 0 where
  -- a transfer has its seat and its header, and is cancelled after a reopening
  pub seated_then_cancelled :
      Keeps kind served (booked_as 0 0 1 ∷ issued ∷ seated_at 1 0 0 ∷ headed_by 1 ((kind 1 1).header 0 0 0) ∷
      reopened ∷ cancelled_from 1 0 0 ∷ [])
  -- two transfers of one round go over one spine, to and fro between two lines
  pub to_and_fro :
      Keeps kind served (fitted_to 2 1 1 ∷ booked_as 0 1 1 ∷ booked_as 1 0 2 ∷ issued ∷ seated_at 1 0 0 ∷ seated_at 2 0 0 ∷ [])
  -- an image is booked, which leaves no room in the one round, and a seat is not permitted to be asked for
  pub loaded_full :
      Keeps kind served ((load one_transfer, load_answer (Ok (1, 1))) ∷
      (book (record { sender = 0; receiver = 0 }), book_answer (refuse_node 8 0)) ∷ needed 1 ∷ (seat 1, not_permitted) ∷ [])
  -- a transfer is issued twice
  pub issued_twice : Keeps kind served issued_two_times
  -- a meter that showed 0 on the new book then shows 2
  pub counted_twice : read_meter 0 issued_two_times ≡ 2
  -- and one that was 1 below the number at which it stops has stopped
  pub meter_stopped : read_meter 4294967294 issued_two_times ≡ 4294967295
