-- Small timetables, and small images.
use Rattle.std.proofs.Common.{◌≡◌, ℕ, zero, suc, ◌<◌, List, [], ◌∷◌, Some, None, Option, sym, refl, ap, ◌∙◌, inl, arith, nat_eq}
use Rattle.std.proofs.lemmas.List.Sums.{count_by-le-length}
use Rattle.ports.specs.declared.transfer.Transfer.{Transfer}
use Rattle.cabinet.specs.Wiring.{Meaning}
use Rattle.cabinet.specs.Laws.{Placed, Meeting}
use Rattle.image.specs.declared.refusal.Layer.TheVariants.{Image}
use Rattle.image.specs.Faults.{Fault, fault}
use Rattle.image.specs.Images.{opened_due}
use Rattle.image.specs.Meaning.{Means, MeansTransfers}
use Rattle.image.specs.Readings.{reading, read_in, record_step, passed}
use Rattle.image.specs.Records.{NumberedRecord, transfer_cell}
use Rattle.image.specs.Settled.{image_reading}
use Rattle.image.proofs.Settled.{settled}
use Rattle.timetables.specs.declared.seat.Seat.{Seat}
use Rattle.timetables.specs.Loads.{transfer_at}
use Rattle.timetables.specs.Timetables.{seat_at, ClashFree, Timetabled}
use Rattle.timetables.proofs.Exists.{rounds_suffice}
use Rattle.audit.specs.Entries.{transfer_bytes, one_transfer, two_transfers, broken_chain}

pub zero_one : ◌≡◌ {A = ℕ} 0 1 → ⊥
zero_one e = omega arith

-- ---- small timetables

abbrev pub zero_to_zero : Transfer
zero_to_zero = record { sender = 0; receiver = 0 }

-- what holds of 0 holds of all below 1
pub only : (P : ℕ → Type 0) → P 0 → (i : ℕ) → i < 1 → P i
only P p zero l = p
only P p (suc i) l = absurd (omega arith)

-- what holds of 0 and of 1 holds of all below 2
pub both : (P : ℕ → Type 0) → P 0 → P 1 → (i : ℕ) → i < 2 → P i
both P p q zero l = p
both P p q (suc i) l = only (λ j. P (suc j)) q i (omega (arith, l))

abbrev pub first_seat : List Seat
first_seat = record { round = 0; spine = 0 } ∷ []

-- one transfer has room in one round over one spine
pub one_seated : (k : Meaning) (t : Transfer) → ClashFree k 1 1 (t ∷ []) first_seat
one_seated k t = record {
  each = refl;
  rounds = only (λ i. (seat_at first_seat i).round < 1) (omega arith);
  spines = only (λ i. (seat_at first_seat i).spine < 1) (omega arith);
  apart = λ i j l m ne same meet. ne (omega (arith, l, m));
}

pub one_fits : (k : Meaning) (t : Transfer) → Timetabled k 1 1 (t ∷ [])
one_fits k t = (first_seat, one_seated k t)

-- it has no room in 0 rounds
pub none_fits : (k : Meaning) (n : ℕ) (t : Transfer) → Timetabled k n 0 (t ∷ []) → ⊥
none_fits k n t h = let below = h.1.rounds 0 (omega arith) in omega arith

pub small : (s r j : ℕ) → s < 2 → r < 2 → j < 2 → Placed 1 2 s r j
small s r j a b c = record { lines = refl; nodes = refl; sender = omega arith; receiver = omega arith; spine = c }

-- two lines of two nodes
pub square : (s r j : ℕ) → s < 4 → r < 4 → j < 2 → Placed 2 2 s r j
square s r j a b c = record { lines = refl; nodes = refl; sender = omega arith; receiver = omega arith; spine = c }

-- two transfers of one node have no room in one round
pub two_crowded : (kind : ℕ → ℕ → Meaning) → Meeting kind → Timetabled (kind 1 1) 1 1 (zero_to_zero ∷ zero_to_zero ∷ []) → ⊥
two_crowded kind meeting h =
    let placed : (j : ℕ) → j < 1 → Placed 1 1 0 0 j = λ j l. record { lines = refl; nodes = refl; sender = omega arith; receiver = omega arith; spine = l } in
    let free = h.1 in
    let first = free.rounds 0 (omega arith) in
    let second = free.rounds 1 (omega arith) in
    free.apart 0 1 (omega arith) (omega arith) zero_one (omega (arith, first, second))
    ((meeting 1 1 0 0 _ 0 0 _ (placed _ (free.spines 0 (omega arith))) (placed _ (free.spines 1 (omega arith)))).1 (inl refl))

-- they have room in two
pub two_fit : (kind : ℕ → ℕ → Meaning) → Meeting kind → Timetabled (kind 1 1) 1 2 (zero_to_zero ∷ zero_to_zero ∷ [])
two_fit kind meeting =
    let ts : List Transfer = zero_to_zero ∷ zero_to_zero ∷ [] in
    (rounds_suffice kind meeting 1 1 2 ts refl refl (both (λ i. ((transfer_at ts i).sender < 1) × ((transfer_at ts i).receiver < 1)) (omega arith, omega arith) (omega arith, omega arith))).1
    (λ v. (count_by-le-length (λ t. nat_eq t.sender v) ts, count_by-le-length (λ t. nat_eq t.receiver v) ts))

-- no transfer needs no round
pub none_needed : (k : Meaning) (n : ℕ) → Timetabled k n 0 []
none_needed k n = ([], record { each = refl; rounds = λ i l. absurd (omega arith); spines = λ i l. absurd (omega arith); apart = λ i j l m ne same meet. absurd (omega arith) })

-- ---- small images

-- the record of a cell
abbrev pub at_cell : ℕ → ℕ → NumberedRecord
at_cell c next = record { number = c; parts = transfer_cell (transfer_bytes next) }

pub one_read : image_reading one_transfer ≡ record { records = at_cell 1 0 ∷ []; stop = None }
unfolding image_reading opened_due reading read_in record_step passed
one_read = refl

two_read : (R : ℕ) → image_reading (two_transfers R) ≡ record { records = at_cell 1 2 ∷ at_cell 2 0 ∷ []; stop = None }
unfolding image_reading opened_due reading read_in record_step passed
two_read R = refl

broken_read : image_reading broken_chain ≡ record { records = at_cell 1 9 ∷ []; stop = Some (fault 18 1 Image) }
unfolding image_reading opened_due reading read_in record_step passed
broken_read = refl

pub one_means : Means one_transfer (at_cell 1 0 ∷ [])
one_means = ((settled one_transfer).read _).1 one_read

pub two_means : (R : ℕ) → Means (two_transfers R) (at_cell 1 2 ∷ at_cell 2 0 ∷ [])
two_means R = ((settled (two_transfers R)).read _).1 (two_read R)

pub broken_means : (ts : List Transfer) → MeansTransfers broken_chain ts → ⊥
broken_means ts m =
    let e = ((settled broken_chain).read m.0).0 m.1 in
    let stop : ◌≡◌ {A = Option Fault} (Some (fault 18 1 Image)) None = ap (λ r. r.stop) (sym broken_read ∙ e) in cc
