-- A new book is fitted and loaded.
use Rattle.std.proofs.Common.{◌≡◌, ℕ, List, [], Ok, Err, Result, refl, sym, ap, ◌∙◌}
use Rattle.crossbar.specs.Refusals.{Refusal}
use Rattle.timetables.specs.declared.seat.Seat.{Seat}
use Rattle.kinds.specs.Folded.{folded}
use Rattle.image.specs.declared.head.Head.{Head}
use Rattle.image.specs.Faults.{Fault}
use Rattle.image.specs.Images.{Opened, opened_due}
use Rattle.chain.specs.Served.{chain_serves}
use Rattle.bookings.specs.Model.{Model, new_book, fit_due, left_by}
use Rattle.bookings.specs.Loading.{load_due, loaded, Adds}
use Rattle.book.specs.Calls.{Seated, Delivered}
use Rattle.printouts.specs.Faults.{fit_fault}
use Rattle.printouts.specs.Plans.{bare_image, head_fitted, image_fitted, image_loaded, planned, HoldsMeant, IsFoldedTimetable}

-- ---- a new book is fitted to the head

module _ (b : Model) (bytes : List ℕ) (new : b ≡ new_book) where
  abbrev next : Result Model Fault → Result Model Fault
  next r = elim r as (λ _. Result Model Fault) [ Err f ↦ Err f | Ok c ↦ image_loaded c (bare_image bytes) ]

  by_fit : (r : Result Model Fault) → r ≡ image_fitted b bytes → next r ≡ planned new_book bytes
  unfolding planned
  by_fit r e = ap next e ∙ ap (λ (c : Model). next (image_fitted c bytes)) new

  pub fit_refused : (f : Fault) → Err f ≡ image_fitted b bytes → Err f ≡ planned new_book bytes
  fit_refused f e = by_fit (Err f) e

  module _ (c : Model) (fits : Ok c ≡ image_fitted b bytes) where
    abbrev last : Result (ℕ × ℕ) Fault → Result Model Fault
    last r = elim r as (λ _. Result Model Fault) [ Err f ↦ Err f | Ok _ ↦ Ok (loaded c (bare_image bytes)) ]

    by_load : (r : Result (ℕ × ℕ) Fault) → r ≡ load_due c (bare_image bytes) → last r ≡ planned new_book bytes
    by_load r e = ap last e ∙ by_fit (Ok c) fits

    pub load_refused : (f : Fault) → Err f ≡ load_due c (bare_image bytes) → Err f ≡ planned new_book bytes
    load_refused f told = by_load (Err f) told

    pub load_accepted : (a : ℕ × ℕ) (d : Model) → Ok a ≡ load_due c (bare_image bytes) → d ≡ loaded c (bare_image bytes) → Ok d ≡ planned new_book bytes
    load_accepted a d told is = ap (λ (m : Model). Ok m) is ∙ by_load (Ok a) told

    -- a fit changes neither transfers nor tickets
    by_fitted : (h : Head) (q : Result (Unit {0}) Refusal) →
        (elim q as (λ _. Result Model Fault) [
          | Err e ↦ Err (fit_fault e)
          | Ok _ ↦ Ok (left_by q b (record { m = h.sizes.m; n = h.sizes.n; rounds = h.rounds; given = b.given; live = b.live }))
        ]) ≡ Ok c → (c.live ≡ b.live) × (c.given ≡ b.given)
    by_fitted h (Err e) is = absurd cc
    by_fitted h (Ok u) is =
        let same : ◌≡◌ {A = Model} (record { m = h.sizes.m; n = h.sizes.n; rounds = h.rounds; given = b.given; live = b.live }) c = cc in
        (sym (ap (λ (x : Model). x.live) same), sym (ap (λ (x : Model). x.given) same))

    by_opened : (r : Result Opened Fault) → (elim r as (λ _. Result Model Fault) [ Err f ↦ Err f | Ok o ↦ head_fitted b o.head ]) ≡ Ok c → (c.live ≡ b.live) × (c.given ≡ b.given)
    by_opened (Err f) is = absurd cc
    by_opened (Ok o) is = by_fitted o.head (fit_due b (chain_serves o.head.rounds) o.head.sizes.m o.head.sizes.n o.head.rounds) is

    kept : (c.live ≡ b.live) × (c.given ≡ b.given)
    unfolding image_fitted
    kept = by_opened (opened_due bytes) (sym fits)

    pub load_holds : (a : ℕ × ℕ) (d : Model) → Adds c (bare_image bytes) (Ok a) d → HoldsMeant bytes d
    unfolding Adds HoldsMeant
    load_holds a d h =
        let live : c.live ≡ [] = kept.0 ∙ ap (λ (x : Model). x.live) new in
        let given : c.given ≡ 0 = kept.1 ∙ ap (λ (x : Model). x.given) new in
        (h.0, h.1, ap (λ (x : Model). x.live) h.3 ∙ rw (live, given) refl)

-- the seats of an issue
pub seated : (b c : Model) (ss : List Seat) → b ≡ c → Seated folded c ss → Delivered folded c ss → IsFoldedTimetable b ss
unfolding IsFoldedTimetable
seated b c ss e free delivered = rw e (free, delivered)

pub ruleset planning = (fit_refused, load_refused, load_accepted, load_holds)
