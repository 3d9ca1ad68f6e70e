-- The loops over the records of an image: that which collects the transfers, and that which only checks.
use Rattle.std.proofs.Common.{◌≡◌, ℕ, List, [], ◌∷◌, ◌++◌, Some, None, Ok, Option, refl, sym, ap, ◌∙◌}
use mathlib.Core.List.{append-nil}
use Rattle.ports.specs.declared.transfer.Transfer.{Transfer}
use Rattle.image.specs.declared.record.Record.{Record}
use Rattle.image.specs.Meaning.{record_transfers}
use Rattle.image.specs.Readings.{Reading, Reader, record_step, passed, told_some}
use Rattle.image.specs.Records.{NumberedRecord, parts, transfer_held}
use Rattle.image.proofs.Loops.{IsPart, part_begins, part_more, part_less, part_ends, part_stops, made_at_end, made_at_stop}

one_of : Option Transfer → List Transfer
one_of None = []
one_of (Some t) = t ∷ []

module _ (r : Reading) (done done_new : List Transfer) (k k_new : Reader) (h : IsPart record_transfers r done k) (o : Option (ℕ × Record)) (i : ℕ) (x : Record)
    (answer : Ok (told_some o) ≡ record_step k) (some : o ≡ Some (i, x)) (there : k_new ≡ passed k) where
  pub transfer_more : (t : Transfer) → Some t ≡ transfer_held (parts x) → done_new ≡ done ++ (t ∷ []) → IsPart record_transfers r done_new k_new
  unfolding one_of
  transfer_more t s d = part_more record_transfers r done k h o i x k_new answer some there done_new (d ∙ ap (λ o. done ++ one_of o) s)

  pub no_transfer_more : None ≡ transfer_held (parts x) → done_new ≡ done → IsPart record_transfers r done_new k_new
  unfolding one_of
  no_transfer_more s d = part_more record_transfers r done k h o i x k_new answer some there done_new (d ∙ sym (append-nil done) ∙ ap (λ o. done ++ one_of o) s)

pub ruleset collecting = (part_begins, part_less, made_at_end, made_at_stop, transfer_more, no_transfer_more)

-- nothing is made of a record
abbrev pub no_part : NumberedRecord → List ℕ
no_part _ = []

-- one record more, of which nothing is made
pub nothing_more : (r : Reading) (k k_new : Reader) (h : IsPart no_part r [] k) (o : Option (ℕ × Record)) (i : ℕ) (x : Record) →
    Ok (told_some o) ≡ record_step k → o ≡ Some (i, x) → k_new ≡ passed k → IsPart no_part r [] k_new
nothing_more r k k_new h o i x answer some there = part_more no_part r [] k h o i x k_new answer some there [] refl

pub ruleset checking = (part_begins, part_less, part_ends, part_stops, nothing_more)
