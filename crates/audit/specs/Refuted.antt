-- Histories that are not lawful, or not due, whatever the kind and whatever counts the round arranger serves.
use Rattle.std.specs.Prelude.{◌≢◌, ℕ, Bool, true, [], ◌∷◌, Ok, Err}
use Rattle.crossbar.specs.Refusals.{refuse, refuse_node}
use Rattle.cabinet.specs.Wiring.{Meaning, walk, bytes_of}
use Rattle.image.specs.declared.refusal.Layer.TheVariants.{Image, Booking}
use Rattle.image.specs.Faults.{fault}
use Rattle.audit.specs.History.{fit, book, load, issue, seat, sheet, fit_answer, book_answer, load_answer, seat_answer, header_answer, sheet_answer, not_permitted, History}
use Rattle.audit.specs.Entries.{fitted_to, booked_as, cancelled_from, needed, issued, reopened, seated_at, headed_by, no_bytes, one_transfer, two_transfers, broken_chain}
use Rattle.audit.specs.Law.{Lawful, Due}

-- a history is against what is promised
abbrev pub Refutes : (ℕ → ℕ → Meaning) → (ℕ → Bool) → History → Type 0
Refutes kind served h = Lawful kind served h → ⊥

-- an answer in it is not the one due
abbrev pub IsNotDue : (ℕ → Bool) → History → Type 0
IsNotDue served h = Due served h → ⊥

-- each of these is against the law
pub record Refuted (kind : ℕ → ℕ → Meaning) (served : ℕ → Bool) : Type 0 where
  -- a first booking is refused for want of rounds
  pub first_refused : Refutes kind served ((book (record { sender = 0; receiver = 0 }), book_answer (refuse_node 8 0)) ∷ [])
  -- a booking from a node that is not there is refused for want of rounds
  pub no_such_node : Refutes kind served ((book (record { sender = 5; receiver = 0 }), book_answer (refuse_node 8 5)) ∷ [])
  -- a booking is refused by 9 where 8 is due
  pub receiver_named :
      IsNotDue served (booked_as 0 0 1 ∷ (book (record { sender = 0; receiver = 0 }), book_answer (refuse_node 9 0)) ∷ [])
  -- a number is told that stands for no refusal
  pub no_such_refusal : IsNotDue served ((book (record { sender = 0; receiver = 0 }), book_answer (refuse 77)) ∷ [])
  -- one node sends two transfers in one round
  pub second_taken : Refutes kind served (booked_as 0 0 1 ∷ booked_as 0 0 2 ∷ [])
  -- two transfers have one ticket
  pub same_ticket : Refutes kind served (fitted_to 1 1 2 ∷ booked_as 0 0 1 ∷ booked_as 0 0 1 ∷ [])
  -- tickets begin anew after a fit
  pub ticket_given_again :
      Refutes kind served (booked_as 0 0 1 ∷ cancelled_from 1 0 0 ∷ fitted_to 1 1 1 ∷ booked_as 0 0 1 ∷ [])
  -- a refused load spends a ticket
  pub ticket_spent : Refutes kind served ((load no_bytes, load_answer (Err (fault 15 0 Image))) ∷ booked_as 0 0 2 ∷ [])
  -- there are more lines than 32
  pub lines_above : Refutes kind served (fitted_to 33 1 1 ∷ [])
  -- a number of rounds is taken that the round arranger does not serve
  pub not_served : (R : ℕ) → served R ≢ true → Refutes kind served (fitted_to 1 1 R ∷ [])
  -- a refused fit is kept
  pub fit_kept : Refutes kind served ((fit 1 2 0, fit_answer (refuse 3)) ∷ booked_as 1 0 1 ∷ [])
  -- a ticket is cancelled twice
  pub cancelled_twice : Refutes kind served (booked_as 0 0 1 ∷ cancelled_from 1 0 0 ∷ cancelled_from 1 0 0 ∷ [])
  -- a cancel tells another receiver than that of the transfer
  pub cancelled_astray : Refutes kind served (booked_as 0 0 1 ∷ cancelled_from 1 0 1 ∷ [])
  -- an image without a byte is booked
  pub nothing_loaded : Refutes kind served ((load no_bytes, load_answer (Ok (1, 0))) ∷ [])
  -- an image of one transfer is refused for want of rounds
  pub load_refused : Refutes kind served ((load one_transfer, load_answer (Err (fault 8 1 Booking))) ∷ [])
  -- it is refused for want of rounds at a cell that is not there
  pub no_such_cell : Refutes kind served ((load one_transfer, load_answer (Err (fault 8 7 Booking))) ∷ [])
  -- an image of two transfers from one node is booked in one round
  pub two_loaded : Refutes kind served ((load (two_transfers 1), load_answer (Ok (1, 2))) ∷ [])
  -- in two rounds it is refused for want of rounds at the second
  pub second_refused :
      Refutes kind served (fitted_to 1 1 2 ∷ (load (two_transfers 2), load_answer (Err (fault 8 2 Booking))) ∷ [])
  -- in one round it is refused, but at a cell that is none of its transfers
  pub cell_astray : Refutes kind served ((load (two_transfers 1), load_answer (Err (fault 8 3 Booking))) ∷ [])
  -- an image is booked as far as its chain is whole
  pub broken_loaded : Refutes kind served ((load broken_chain, load_answer (Ok (1, 1))) ∷ [])
  -- a refused load keeps what it booked before the fault
  pub load_kept : Refutes kind served ((load broken_chain, load_answer (Err (fault 18 1 Image))) ∷ needed 1 ∷ [])
  -- one transfer needs two rounds
  pub needs_two : Refutes kind served (booked_as 0 0 1 ∷ needed 2 ∷ [])
  -- one transfer needs no round
  pub needs_none : Refutes kind served (booked_as 0 0 1 ∷ needed 0 ∷ [])
  -- a draft does not permit an issue
  pub issue_stopped : Refutes kind served ((issue, not_permitted) ∷ [])
  -- a timetable takes a booking
  pub booked_late : Refutes kind served (issued ∷ booked_as 0 0 1 ∷ [])
  -- a timetable is issued
  pub issued_late : Refutes kind served (issued ∷ issued ∷ [])
  -- a timetable does not permit a seat to be asked for
  pub seat_stopped : Refutes kind served (booked_as 0 0 1 ∷ issued ∷ (seat 1, not_permitted) ∷ [])
  -- a seat is asked for, and a header is told
  pub other_answer :
      (h : ℕ × ℕ × ℕ) → Refutes kind served (booked_as 0 0 1 ∷ issued ∷ (seat 1, header_answer (Ok h)) ∷ [])
  -- a reopened book keeps its seats
  pub seat_kept : Refutes kind served (booked_as 0 0 1 ∷ issued ∷ seated_at 1 0 0 ∷ reopened ∷ seated_at 1 0 0 ∷ [])
  -- a ticket has two seats, each of which is there
  pub two_seats :
      Refutes kind served (fitted_to 1 2 1 ∷ booked_as 0 0 1 ∷ issued ∷ seated_at 1 0 0 ∷ seated_at 1 0 1 ∷ [])
  -- after a second issue a seat is that of the first
  pub seat_of_before :
      Refutes kind served (fitted_to 1 1 2 ∷ booked_as 0 0 1 ∷
      issued ∷ seated_at 1 0 0 ∷ reopened ∷ issued ∷ seated_at 1 1 0 ∷ seated_at 1 0 0 ∷ [])
  -- a round is not below R
  pub round_above : Refutes kind served (booked_as 0 0 1 ∷ issued ∷ seated_at 1 1 0 ∷ [])
  -- a spine is not below n
  pub spine_above : Refutes kind served (booked_as 0 0 1 ∷ issued ∷ seated_at 1 0 1 ∷ [])
  -- a live ticket is told not live
  pub live_refused : Refutes kind served (booked_as 0 0 1 ∷ issued ∷ (seat 1, seat_answer (refuse 12)) ∷ [])
  -- a cancelled one has a seat
  pub cancelled_seated : Refutes kind served (booked_as 0 0 1 ∷ cancelled_from 1 0 0 ∷ issued ∷ seated_at 1 0 0 ∷ [])
  -- a header does not lead to the receiver
  pub header_astray :
      (h : ℕ × ℕ × ℕ) → walk (kind 1 1) 0 (bytes_of h) ≢ Ok (0, []) →
      Refutes kind served (booked_as 0 0 1 ∷ issued ∷ headed_by 1 h ∷ [])
  -- a header is told that is the kind's for another spine than that of the seat, though it arrives
  pub other_spine :
      Refutes kind served (fitted_to 1 2 1 ∷ booked_as 0 0 1 ∷ issued ∷ seated_at 1 0 0 ∷
      headed_by 1 ((kind 1 2).header 0 0 1) ∷ [])
  -- a ticket has two headers
  pub two_headers :
      (h i : ℕ × ℕ × ℕ) → h ≢ i → Refutes kind served (booked_as 0 0 1 ∷ issued ∷ headed_by 1 h ∷ headed_by 1 i ∷ [])
  -- a round that is not there has an empty sheet
  pub sheet_above : Refutes kind served (issued ∷ (sheet 1 100, sheet_answer (Ok [])) ∷ [])
  -- one node sends two transfers of one round, over two spines
  pub same_sender :
      Refutes kind served (fitted_to 1 2 2 ∷ booked_as 0 0 1 ∷ booked_as 0 1 2 ∷
      issued ∷ seated_at 1 0 0 ∷ seated_at 2 0 1 ∷ [])
  -- one node receives two
  pub same_receiver :
      Refutes kind served (fitted_to 1 2 2 ∷ booked_as 0 0 1 ∷ booked_as 1 0 2 ∷
      issued ∷ seated_at 1 0 0 ∷ seated_at 2 0 1 ∷ [])
  -- two transfers of one line go over one spine in one round
  pub same_spine :
      Refutes kind served (fitted_to 1 2 1 ∷ booked_as 0 1 1 ∷ booked_as 1 0 2 ∷
      issued ∷ seated_at 1 0 0 ∷ seated_at 2 0 0 ∷ [])
  -- two transfers come to one line over one spine in one round, from two lines
  pub same_receive_line :
      Refutes kind served (fitted_to 2 2 1 ∷ booked_as 0 2 1 ∷ booked_as 2 3 2 ∷
      issued ∷ seated_at 1 0 0 ∷ seated_at 2 0 0 ∷ [])
