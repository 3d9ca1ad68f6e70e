-- What a book holds after its turns: the sizes that it had, and the transfers that were booked.
use Rattle.std.proofs.Common.{◌≡◌, ℕ, zero, suc, ◌+◌, List, [], ◌∷◌, ◌++◌, Ok, Err, Result, sym, refl, ap, ◌∙◌, subst, arith, append_assoc}
use Rattle.std.proofs.lemmas.List.{map_push, append-nil}
use Rattle.crossbar.specs.Refusals.{Refusal}
use Rattle.ports.specs.declared.transfer.Transfer.{Transfer}
use Rattle.cabinet.specs.Wiring.{Meaning}
use Rattle.timetables.specs.declared.seat.Seat.{Seat}
use Rattle.timetables.specs.Timetables.{ClashFree}
use Rattle.bookings.specs.declared.booking.Booking.{Booking}
use Rattle.bookings.specs.Model.{Model, transfers, booking_due, appended}
use Rattle.book.specs.Calls.{Seated}
use Rattle.book_exports.specs.Filling.{and_then, book_all, emptied, turned, turns}

-- the book c has the sizes and rounds of b, and these transfers live
record Holds (b c : Model) (ts : List Transfer) : Type 0 where
  m : c.m ≡ b.m
  n : c.n ≡ b.n
  rounds : c.rounds ≡ b.rounds
  live : transfers c.live ≡ ts

holds_more : (b c d : Model) (ss ts : List Transfer) → Holds b c ss → Holds c d ts → Holds b d ts
holds_more b c d ss ts h k = record { m = k.m ∙ h.m; n = k.n ∙ h.n; rounds = k.rounds ∙ h.rounds; live = k.live }

-- what comes after a call was accepted with it
both_ok : {A B : Type 0} (r : Result A Refusal) (f : A → Result B Refusal) (c : B) → and_then r f ≡ Ok c → (a : A) × (r ≡ Ok a) × (f a ≡ Ok c)
both_ok (Ok a) f c e = (a, refl, e)
both_ok (Err d) f c e = absurd (let z : ◌≡◌ {A = ℕ} 0 1 = cc in omega arith)

ok_inj : (b c : Model) → ◌≡◌ {A = Result Model Refusal} (Ok b) (Ok c) → b ≡ c
ok_inj b c e = cc

booked_holds : (ts : List Transfer) (b c : Model) → book_all b ts ≡ Ok c → Holds b c (transfers b.live ++ ts)
unfolding book_all
booked_holds [] b c e =
    let same : b ≡ c = ok_inj b c e in
    subst (λ (d : Model). Holds b d (transfers b.live ++ [])) same (record { m = refl; n = refl; rounds = refl; live = sym (append-nil (transfers b.live)) })
booked_holds (t ∷ ts) b c e =
    let rest = both_ok (booking_due b t) (λ _. book_all (appended b t) ts) c e in
    let x : Booking = record { ticket = b.given + 1; transfer = t } in
    let h = booked_holds ts (appended b t) c rest.2 in
    record { m = h.m; n = h.n; rounds = h.rounds; live = h.live ∙ ap (λ (us : List Transfer). us ++ ts) (map_push (λ (y : Booking). y.transfer) b.live x) ∙ append_assoc (transfers b.live) (t ∷ []) ts }

-- a turn leaves no transfer live
turned_holds : (b c : Model) (ts : List Transfer) → turned b ts ≡ Ok c → Holds b c []
unfolding turned
turned_holds b c ts e =
    let all = both_ok (book_all b ts) (λ d. Ok (emptied d)) c e in
    let h = booked_holds ts b all.0 all.1 in
    subst (λ (d : Model). Holds b d []) (ok_inj (emptied all.0) c all.2) (record { m = h.m; n = h.n; rounds = h.rounds; live = refl })

turns_hold : (k : ℕ) (b c : Model) (ts : List Transfer) → b.live ≡ [] → turns k b ts ≡ Ok c → Holds b c []
unfolding turns
turns_hold zero b c ts none e = subst (λ (d : Model). Holds b d []) (ok_inj b c e) (record { m = refl; n = refl; rounds = refl; live = ap transfers none })
turns_hold (suc k) b c ts none e =
    let all = both_ok (turns k b ts) (λ d. turned d ts) c e in
    holds_more b all.0 c [] [] (turns_hold k b all.0 ts none all.1) (turned_holds all.0 c ts all.2)

-- seats of the last turn are those of the transfers that were booked in it
pub seated : (kind : ℕ → ℕ → Meaning) (k : ℕ) (b c d : Model) (ts : List Transfer) (ss : List Seat) → b.live ≡ [] → turns k b ts ≡ Ok c → book_all c ts ≡ Ok d → Seated kind d ss → ClashFree (kind b.m b.n) b.n b.rounds ts ss
seated kind k b c d ts ss none before last free =
    let h = turns_hold k b c ts none before in
    let j = booked_holds ts c d last in
    let g = holds_more b c d [] (transfers c.live ++ ts) h j in
    let live : transfers d.live ≡ ts = j.live ∙ ap (λ (us : List Transfer). us ++ ts) h.live in
    moved g.m g.n g.rounds live free
  where
    moved : {m n R m' n' R' : ℕ} {us vs : List Transfer} → m ≡ m' → n ≡ n' → R ≡ R' → us ≡ vs → ClashFree (kind m n) n R us ss → ClashFree (kind m' n') n' R' vs ss
    moved e f g h free = rw (← e, ← f, ← g, ← h) free
