-- One sheet after the other.
use Rattle.std.proofs.Common.{◌≡◌, ℕ, ◌+◌, ◌≤◌, List, [], ◌∷◌, ◌++◌, sym, ap, ◌∙◌, arith, append-nil}
use Rattle.std.specs.List.{flat_map, range_with_len}
use Rattle.std.proofs.lemmas.List.Concat.{flat_map-append}
use Rattle.timetables.specs.declared.seat.Seat.{Seat}
use Rattle.kinds.specs.Folded.{folded}
use Rattle.bookings.specs.Model.{Model}
use Rattle.sheets.specs.Sheets.{sheet_text}
use Rattle.sheets.proofs.Noting.{range_more}
use Rattle.printouts.specs.Plans.{sheets_text}

module _ (b : Model) (ss : List Seat) (k : ℕ) (text : List ℕ) (is : text ≡ flat_map (sheet_text folded b ss) (range_with_len 0 k)) where
  pub sheet_more : (more : List ℕ) → more ≡ text ++ sheet_text folded b ss k → more ≡ flat_map (sheet_text folded b ss) (range_with_len 0 (k + 1))
  sheet_more more e =
      e ∙ ap (λ (t : List ℕ). t ++ sheet_text folded b ss k) is
      ∙ ap (λ (t : List ℕ). flat_map (sheet_text folded b ss) (range_with_len 0 k) ++ t) (sym (append-nil (sheet_text folded b ss k)))
      ∙ sym (flat_map-append (sheet_text folded b ss) (range_with_len 0 k) (k ∷ []))
      ∙ sym (ap (flat_map (sheet_text folded b ss)) (range_more k))

  pub sheets_all : k ≤ b.rounds → b.rounds ≤ k → text ≡ sheets_text b ss
  unfolding sheets_text
  sheets_all l m =
      let same : k ≡ b.rounds = omega arith in
      is ∙ ap (λ (n : ℕ). flat_map (sheet_text folded b ss) (range_with_len 0 n)) same

pub ruleset collecting = (sheet_more, sheets_all)
