-- The fullest round.
use Rattle.std.specs.Prelude.{◌≡◌, ℕ, ◌<◌, ◌≤◌, false, List, map, Option}
use Rattle.std.specs.List.{range_with_len}
use Rattle.timetables.specs.declared.seat.Seat.{Seat}
use Rattle.timetables.specs.Timetables.{in_round}
use Rattle.reports.specs.declared.loads.RoundLoad.{RoundLoad}
use Rattle.reports.specs.Choice.{best_due}
use Rattle.reports.specs.Loads.{round_above}

-- the load of the round k
abbrev pub round_load_of : List Seat → ℕ → RoundLoad
round_load_of ss k = record { round = k; count = in_round k ss }

-- the best of the loads of the R rounds
unfoldable pub fullest_due : ℕ → List Seat → Option RoundLoad
fullest_due R ss = best_due round_above (map (round_load_of ss) (range_with_len 0 R))

-- the fullest of R rounds: as many transfers have it as are counted, no round has more, and of those with equally many none
-- ranks above it
pub record Fullest (R : ℕ) (ss : List Seat) (l : RoundLoad) : Type 0 where
  pub round : l.round < R
  pub counted : l.count ≡ in_round l.round ss
  pub most : (k : ℕ) → k < R → in_round k ss ≤ l.count
  pub first : (k : ℕ) → k < R → in_round k ss ≡ l.count → round_above (round_load_of ss k) l ≡ false
