-- The booking of a record, and of records one after the other: what was booked where it is accepted, and where it is refused.
use Rattle.std.proofs.Common.{◌≡◌, ℕ, List, [], ◌∷◌, ◌++◌, Some, None, Ok, Err, Option, Result, refl, ap, ◌∙◌, ◌⊎◌, inl, inr}
use Rattle.ports.specs.declared.transfer.Transfer.{Transfer}
use Rattle.crossbar.specs.Refusals.{Refusal}
use Rattle.image.specs.Faults.{Fault}
use Rattle.image.specs.Meaning.{IsNotIn}
use Rattle.image.specs.Records.{NumberedRecord, transfer_held}
use Rattle.bookings.specs.Faults.{booking_fault}
use Rattle.bookings.specs.Loading.{record_booked, records_booked}
use Rattle.bookings.specs.Model.{Model, booking_due, appended}

-- ---- a record

module _ (b : Model) (i : ℕ) where
  abbrev by_due : Transfer → Result ℕ Refusal → Result Model Fault
  by_due t due = elim due [ Err e ↦ Err (booking_fault i e) | Ok _ ↦ Ok (appended b t) ]

  abbrev by_held : Option Transfer → Result Model Fault
  by_held held = elim held [ None ↦ Ok b | Some t ↦ by_due t (booking_due b t) ]

  due_accepted : (c : Model) (t : Transfer) (due : Result ℕ Refusal) → Ok c ≡ by_due t due → (k : ℕ) × (Ok k ≡ due) × (c ≡ appended b t)
  due_accepted c t (Ok k) e = (k, refl, cc)
  due_accepted c t (Err f) e = absurd cc

  due_refused : (f : Fault) (t : Transfer) (due : Result ℕ Refusal) → Err f ≡ by_due t due → f.cell ≡ i
  due_refused f t (Ok k) e = absurd cc
  due_refused f t (Err r) e = let same : f ≡ booking_fault i r = cc in ap (λ a. a.cell) same

  abbrev IsAccepted : Model → Option Transfer → Type 0
  IsAccepted c held = ((held ≡ None) × (c ≡ b)) ⊎ ((t : Transfer) × (held ≡ Some t) × ((k : ℕ) × (Ok k ≡ booking_due b t) × (c ≡ appended b t)))

  held_accepted : (c : Model) (held : Option Transfer) → Ok c ≡ by_held held → IsAccepted c held
  held_accepted c None e = inl (refl, cc)
  held_accepted c (Some t) e = inr (t, refl, due_accepted c t (booking_due b t) e)

  held_refused : (f : Fault) (held : Option Transfer) → Err f ≡ by_held held → f.cell ≡ i
  held_refused f None e = absurd cc
  held_refused f (Some t) e = due_refused f t (booking_due b t) e

-- it has no transfer, or that is booked
pub record_accepted : (b c : Model) (x : NumberedRecord) → Ok c ≡ record_booked b x → IsAccepted b x.number c (transfer_held x.parts)
record_accepted b c x e = held_accepted b x.number c (transfer_held x.parts) e

-- the refusal is told of its cell
pub record_refused : (b : Model) (f : Fault) (x : NumberedRecord) → Err f ≡ record_booked b x → f.cell ≡ x.number
record_refused b f x e = held_refused b x.number f (transfer_held x.parts) e

-- ---- records

-- records after those that came to a book, or to a refusal
abbrev pub and_others : List NumberedRecord → Result Model Fault → Result Model Fault
and_others xs o = elim o [ Err f ↦ Err f | Ok c ↦ records_booked c xs ]

booked_first : (b : Model) (x : NumberedRecord) (xs : List NumberedRecord) → records_booked b (x ∷ xs) ≡ and_others xs (record_booked b x)
unfolding records_booked
booked_first b x xs = refl

others_accepted : (d : Model) (xs : List NumberedRecord) (o : Result Model Fault) → Ok d ≡ and_others xs o → (c : Model) × (Ok c ≡ o) × (Ok d ≡ records_booked c xs)
others_accepted d xs (Ok c) e = (c, refl, e)
others_accepted d xs (Err f) e = absurd cc

others_refused : (f : Fault) (xs : List NumberedRecord) (o : Result Model Fault) → Err f ≡ and_others xs o → (Err f ≡ o) ⊎ ((c : Model) × (Ok c ≡ o) × (Err f ≡ records_booked c xs))
others_refused f xs (Ok c) e = inr (c, refl, e)
others_refused f xs (Err g) e = inl e

pub none_accepted : (b d : Model) → Ok d ≡ records_booked b [] → d ≡ b
unfolding records_booked
none_accepted b d e = cc

none_refused : (b : Model) (f : Fault) → Err f ≡ records_booked b [] → ⊥
unfolding records_booked
none_refused b f e = absurd cc

pub first_accepted : (b d : Model) (x : NumberedRecord) (xs : List NumberedRecord) → Ok d ≡ records_booked b (x ∷ xs) → (c : Model) × (Ok c ≡ record_booked b x) × (Ok d ≡ records_booked c xs)
first_accepted b d x xs e = others_accepted d xs (record_booked b x) (e ∙ booked_first b x xs)

-- a refusal among records is told of the cell of one of them
pub refused_at : (b : Model) (xs : List NumberedRecord) (f : Fault) → Err f ≡ records_booked b xs → IsNotIn f.cell xs → ⊥
refused_at b [] f e n = none_refused b f e
refused_at b (x ∷ xs) f e n =
    elim (others_refused f xs (record_booked b x) (e ∙ booked_first b x xs)) [
      | inl here ↦ n.0 (record_refused b f x here)
      | inr on ↦ refused_at on.0 xs f on.2 n.1
    ]

-- some records, and then others
pub booked_append : (b : Model) (xs ys : List NumberedRecord) → records_booked b (xs ++ ys) ≡ and_others ys (records_booked b xs)
unfolding records_booked
booked_append b [] ys = refl
booked_append b (x ∷ xs) ys = by_first (record_booked b x) (λ c. booked_append c xs ys)
  where
    by_first : (o : Result Model Fault) → ((c : Model) → records_booked c (xs ++ ys) ≡ and_others ys (records_booked c xs)) → and_others (xs ++ ys) o ≡ and_others ys (and_others xs o)
    by_first (Err f) on = refl
    by_first (Ok c) on = on c
