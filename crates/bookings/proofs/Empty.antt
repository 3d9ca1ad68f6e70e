-- The counts of a table with no live transfer.
use Rattle.std.proofs.Common.{◌≡◌, ℕ, ◌≤◌, ◌<◌, List, [], length, get_or, replicate, ap, ⊎_elim, arith}
use Rattle.std.proofs.lemmas.List.{nil_from_length, get_or-replicate, get_or_past, length-replicate}
use Rattle.std.proofs.lemmas.Bool.{cases_lt}
use Rattle.timetables.specs.Loads.{sends, receives}
use Rattle.bookings.specs.declared.booking.Booking.{Booking}
use Rattle.bookings.specs.Model.{transfers}
use Rattle.bookings.specs.Counts.{Counted}

zeros : (v : ℕ) → ◌≡◌ {A = ℕ} (get_or (replicate 512 0) v 0) 0
zeros v = ⊎_elim (λ (l : v < 512). get_or-replicate 512 v 0 0 l) (λ (l : 512 ≤ v). get_or_past (replicate 512 0) v 0 (omega (arith, length-replicate {A = ℕ} 512 0))) (cases_lt v 512)

pub zeros_counted : Counted (replicate 512 0) (replicate 512 0) []
zeros_counted = record { sends = λ v. zeros v; receives = λ v. zeros v }

pub none_counted : (xs : List Booking) (s r : List ℕ) → length xs ≡ 0 → s ≡ replicate 512 0 → r ≡ replicate 512 0 → Counted s r (transfers xs)
none_counted xs s r none e f =
    let z = ap transfers (nil_from_length xs none) in
    record {
      sends = λ v. omega (arith, ap (λ ns. get_or ns v 0) e, zeros v, ap (sends v) z);
      receives = λ v. omega (arith, ap (λ ns. get_or ns v 0) f, zeros v, ap (receives v) z);
    }
