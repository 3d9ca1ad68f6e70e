-- What the records of an image add to a book, and what a load answers and leaves.
use Rattle.std.proofs.Common.{◌≡◌, ℕ, suc, ◌+◌, ◌-◌, Bool, true, false, cond, List, [], ◌∷◌, ◌++◌, length, Some, None, Ok, Err, Option, Result, refl, sym, ap, ◌∙◌, ◌⊎◌, inl, inr, arith}
use mathlib.Core.List.{append_assoc, append-nil}
use Rattle.std.proofs.lemmas.List.{length-append}
use Rattle.ports.specs.declared.transfer.Transfer.{Transfer}
use Rattle.image.specs.declared.refusal.Layer.TheVariants.{Image as ImageLayer}
use Rattle.image.specs.Faults.{Fault, fault}
use Rattle.image.specs.Images.{Opened, opened_due}
use Rattle.image.specs.Meaning.{JobImage, record_transfers, transfers as image_transfers}
use Rattle.image.specs.Readings.{Reading, collected}
use Rattle.image.specs.Records.{NumberedRecord}
use Rattle.image.specs.Settled.{image_reading, transfers_due, transfers_read}
use Rattle.image.proofs.Settled.{settled}
use Rattle.bookings.specs.declared.booking.Booking.{Booking}
use Rattle.bookings.specs.declared.refusal.LoadRefusal.{LoadRefusal}
use Rattle.bookings.specs.Faults.{load_fault}
use Rattle.bookings.specs.Loading.{record_booked, records_booked, reading_booked, is_head_of, image_booked, load_due, loaded, numbered, extended, Adds}
use Rattle.bookings.specs.Model.{Model}
use Rattle.bookings.specs.Steps.{Follows, come_to}
use Rattle.bookings.proofs.Loading.{booked_stop}
use Rattle.bookings.proofs.Records.{record_accepted, none_accepted, first_accepted}

-- ---- transfers under tickets

pub numbered_append : (k : ℕ) (ts us : List Transfer) → numbered k (ts ++ us) ≡ numbered k ts ++ numbered (k + length ts) us
numbered_append k [] us = ap (λ i. numbered i us) (omega arith)
numbered_append k (t ∷ ts) us =
    let e : ◌≡◌ {A = ℕ} (k + 1 + length ts) (k + suc (length ts)) = omega arith in
    ap (λ xs. record { ticket = k; transfer = t } ∷ xs) (numbered_append (k + 1) ts us ∙ ap (λ i. numbered (k + 1) ts ++ numbered i us) e)

pub extended_none : (b : Model) → extended b [] ≡ b
extended_none b =
    ap (λ (g : ℕ). record { m = b.m; n = b.n; rounds = b.rounds; given = g; live = b.live ++ [] }) (let same : ◌≡◌ {A = ℕ} (b.given + 0) b.given = omega arith in same)
    ∙ ap (λ (xs : List Booking). record { m = b.m; n = b.n; rounds = b.rounds; given = b.given; live = xs }) (append-nil b.live)

pub extended_more : (b : Model) (ts us : List Transfer) → extended (extended b ts) us ≡ extended b (ts ++ us)
extended_more b ts us =
    let given : ◌≡◌ {A = ℕ} (b.given + length ts + length us) (b.given + length (ts ++ us)) = omega (arith, length-append ts us) in
    let next : ◌≡◌ {A = ℕ} (b.given + length ts + 1) (b.given + 1 + length ts) = omega arith in
    let live : (b.live ++ numbered (b.given + 1) ts) ++ numbered (b.given + length ts + 1) us ≡ b.live ++ numbered (b.given + 1) (ts ++ us) =
    append_assoc b.live (numbered (b.given + 1) ts) (numbered (b.given + length ts + 1) us)
    ∙ ap (λ (xs : List Booking). b.live ++ xs) (ap (λ i. numbered (b.given + 1) ts ++ numbered i us) next ∙ sym (numbered_append (b.given + 1) ts us)) in
    ap (λ (g : ℕ). record { m = b.m; n = b.n; rounds = b.rounds; given = g; live = (b.live ++ numbered (b.given + 1) ts) ++ numbered (b.given + length ts + 1) us }) given
    ∙ ap (λ (xs : List Booking). record { m = b.m; n = b.n; rounds = b.rounds; given = b.given + length (ts ++ us); live = xs }) live

-- ---- records

pub record_adds : (b c : Model) (x : NumberedRecord) → Ok c ≡ record_booked b x → c ≡ extended b (record_transfers x)
record_adds b c x e =
    let held = λ (o : Option Transfer). extended b (elim o as (λ _. List Transfer) [ None ↦ [] | Some t ↦ t ∷ [] ]) in
    elim (record_accepted b c x e) [
      | inl h ↦ h.1 ∙ sym (extended_none b) ∙ ap held (sym h.0)
      | inr h ↦ let k = h.2 in k.2 ∙ ap held (sym h.1)
    ]

pub records_add : (b d : Model) (xs : List NumberedRecord) → Ok d ≡ records_booked b xs → d ≡ extended b (image_transfers xs)
records_add b d [] e = none_accepted b d e ∙ sym (extended_none b)
records_add b d (x ∷ xs) e =
    let h = first_accepted b d x xs e in
    records_add h.0 d xs h.2 ∙ ap (λ (a : Model). extended a (image_transfers xs)) (record_adds b h.0 x h.1) ∙ extended_more b (record_transfers x) (image_transfers xs)

-- all that is read
by_stop : (c d : Model) (stop : Option Fault) → Ok d ≡ elim stop as (λ _. Result Model Fault) [ Some f ↦ Err f | None ↦ Ok c ] → (stop ≡ None) × (d ≡ c)
by_stop c d None e = (refl, cc)
by_stop c d (Some f) e = absurd cc

by_records : (d : Model) (o : Result Model Fault) (stop : Option Fault)
    → Ok d ≡ elim o as (λ _. Result Model Fault) [ Err f ↦ Err f | Ok c ↦ elim stop as (λ _. Result Model Fault) [ Some f ↦ Err f | None ↦ Ok c ] ] → (stop ≡ None) × (Ok d ≡ o)
by_records d (Err f) stop e = absurd cc
by_records d (Ok c) stop e = let k = by_stop c d stop e in (k.0, ap Ok k.1)

reading_adds : (b d : Model) (r : Reading) → Ok d ≡ reading_booked b r → (r.stop ≡ None) × (d ≡ extended b (image_transfers r.records))
unfolding reading_booked
reading_adds b d r e = let k = by_records d (records_booked b r.records) r.stop e in (k.0, records_add b d r.records k.1)

-- ---- an image

module _ (b : Model) (s : JobImage) where
  abbrev booked_of : Result Opened Fault → Result Model Fault
  booked_of o = elim o [ Err f ↦ Err f | Ok o ↦ cond (is_head_of b o.head) (reading_booked b (image_reading s)) (Err (fault 17 0 ImageLayer)) ]

  by_fit : (fits : Bool) (r : Result Model Fault) → (cond fits r (Err (fault 17 0 ImageLayer)) ≡ r) ⊎ (cond fits r (Err (fault 17 0 ImageLayer)) ≡ Err (fault 17 0 ImageLayer))
  by_fit true r = inl refl
  by_fit false r = inr refl

  by_opened : (o : Result Opened Fault) → opened_due s.bytes ≡ o → (booked_of o ≡ reading_booked b (image_reading s)) ⊎ (booked_of o ≡ Err (fault 17 0 ImageLayer))
  unfolding image_reading
  by_opened (Err f) e = inl (rw (e, image_reading) (sym (booked_stop b f)))
  by_opened (Ok o) e = by_fit (is_head_of b o.head) (reading_booked b (image_reading s))

  -- what is read is booked, or the head is not of the book
  pub booked_or_unfit : (image_booked b s ≡ reading_booked b (image_reading s)) ⊎ (image_booked b s ≡ Err (fault 17 0 ImageLayer))
  unfolding image_booked
  booked_or_unfit = by_opened (opened_due s.bytes) refl

  module _ (c : Model) (e : Ok c ≡ image_booked b s) where
    accepted : ((image_reading s).stop ≡ None) × (c ≡ extended b (transfers_read s))
    accepted = elim booked_or_unfit [ inl same ↦ reading_adds b c (image_reading s) (e ∙ same) | inr unfit ↦ absurd (cc (e, unfit)) ]

    count : ◌≡◌ {A = ℕ} (c.given - b.given) (length (transfers_read s))
    count = let k = ap (λ (a : Model). a.given) accepted.1 in omega (arith, k)

    pub accepted_answer : Ok (b.given + 1, c.given - b.given) ≡ load_due b s
    unfolding load_due
    accepted_answer = rw (← e, load_due) (ap (λ (n : ℕ). Ok (b.given + 1, n)) count)

    accepted_adds : Adds b s (Ok (b.given + 1, c.given - b.given)) c
    unfolding Adds
    accepted_adds =
        let ts = transfers_read s in
        let due : transfers_due s ≡ Ok ts = ap (λ o. collected image_transfers (record { records = (image_reading s).records; stop = o })) accepted.0 in
        let means = (settled s).accepted ts in
        (ts, means.1 due, ap (λ (n : ℕ). (b.given + 1, n)) count, accepted.1)

  pub refused_answer : (f : Fault) → Err f ≡ image_booked b s → Err f ≡ load_due b s
  unfolding load_due
  refused_answer f e = rw (← e, load_due) refl

  refused_leaves : (f : Fault) → Err f ≡ image_booked b s → b ≡ loaded b s
  unfolding loaded
  refused_leaves f e = rw (← e, loaded) refl

-- what a load answers and leaves, by what the bookings of its image come to
module _ (b c : Model) (s : JobImage) where
  module _ (h : Follows b c) (e : Ok c ≡ image_booked b s) (first count : ℕ) (f : first ≡ b.given + 1) (g : count ≡ c.given - b.given) where
    pub answers_ok : Ok (first, count) ≡ load_due b s
    answers_ok = rw (f, g) (accepted_answer b s c e)

    pub adds_ok : Adds b s (Ok (first, count)) c
    adds_ok = rw (f, g) (accepted_adds b s c e)

  pub leaves_ok : Ok c ≡ image_booked b s → c ≡ loaded b s
  unfolding loaded
  leaves_ok e = rw (← e, loaded) refl

  pub leaves_err : (r : Result (Unit {0}) LoadRefusal) (d : Model) (f : LoadRefusal) → come_to r d ≡ image_booked b s → r ≡ Err f → c ≡ b → c ≡ loaded b s
  leaves_err r d f e is same = same ∙ refused_leaves b s (load_fault f) (ap (λ q. come_to q d) (sym is) ∙ e)

  pub adds_err : (f : Fault) → c ≡ b → Adds b s (Err f) c
  unfolding Adds
  adds_err f same = same

pub ruleset answering = (refused_answer, answers_ok, adds_ok, leaves_ok, leaves_err, adds_err)

-- a load leaves the number of rounds
pub added_rounds : (b : Model) (s : JobImage) (a : Result (ℕ × ℕ) Fault) (c : Model) → Adds b s a c → c.rounds ≡ b.rounds
unfolding Adds
added_rounds b s (Ok a) c h = ap (λ (d : Model). d.rounds) h.3
added_rounds b s (Err f) c h = ap (λ (d : Model). d.rounds) h
