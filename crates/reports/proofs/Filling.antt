-- The best of the loads of the rounds is the fullest round.
use Rattle.std.proofs.Common.{◌≡◌, ℕ, ◌<◌, ◌≤◌, false, List, length, get_or, take, map, Some, None, sym, ap, ◌∙◌, arith}
use Rattle.std.specs.List.{range_with_len}
use Rattle.std.proofs.lemmas.List.FromFn.{fill_by_all, take-map-range_with_len, get_or-map-range_with_len, length-map-range_with_len}
use Rattle.timetables.specs.declared.seat.Seat.{Seat}
use Rattle.timetables.specs.Timetables.{in_round}
use Rattle.reports.specs.declared.loads.RoundLoad.{RoundLoad}
use Rattle.reports.specs.Choice.{best_due, IsBest}
use Rattle.reports.specs.Loads.{round_above}
use Rattle.reports.specs.LoadLaws.{round_ranks, round_apart}
use Rattle.reports.specs.Fullest.{round_load_of, fullest_due, Fullest}
use Rattle.reports.specs.Steps.{Counts, round_key, round_loads}
use Rattle.reports.proofs.Choosing.{best_among, best_none}
use Rattle.reports.proofs.Counting.{counts_of_64}
use Rattle.reports.proofs.Ranking.{round_no_more}

abbrev alone : ℕ → ℕ → RoundLoad
alone k c = record { round = k; count = c }

abbrev none : RoundLoad
none = record { round = 0; count = 0 }

module _ (R : ℕ) (few : R ≤ 64) (ss : List Seat) (cs : List ℕ) (ls : List RoundLoad) (h : Counts round_key ss cs) (all : length cs ≡ 64) (filled : ls ≡ round_loads cs) where
  -- the loads of the first R rounds
  at : (k : ℕ) (d : RoundLoad) → k < 64 → get_or ls k d ≡ round_load_of ss k
  unfolding Counts round_loads
  at k d m =
      ap (λ (ys : List RoundLoad). get_or ys k d) filled
      ∙ get_or-map-range_with_len {X = RoundLoad} (λ j. record { round = j; count = get_or cs j 0 }) 0 64 k k d m (omega arith)
      ∙ ap (λ (c : ℕ). alone k c) (h k (omega (arith, all, m)))

  as_many : length ls ≡ 64
  unfolding round_loads
  as_many = ap length filled ∙ length-map-range_with_len {X = RoundLoad} (λ k. record { round = k; count = get_or cs k 0 }) 0 64

  loads_are : take R ls ≡ map (round_load_of ss) (range_with_len 0 R)
  loads_are = ap (take R) (fill_by_all (round_load_of ss) ls 64 none as_many (λ k m. at k none m)) ∙ take-map-range_with_len (round_load_of ss) 0 64 R few

  at_first : (k : ℕ) (d : RoundLoad) → k < R → get_or (take R ls) k d ≡ round_load_of ss k
  at_first k d l = ap (λ xs. get_or xs k d) loads_are ∙ get_or-map-range_with_len (round_load_of ss) 0 R k k d l (omega arith)

  long : length (take R ls) ≡ R
  long = ap length loads_are ∙ length-map-range_with_len (round_load_of ss) 0 R

  pub some_best : 1 ≤ R → IsBest round_above (take R ls) None → ⊥
  unfolding IsBest
  some_best one b = omega (arith, one, long, ap length b)

  pub fullest_found : (l : RoundLoad) → Some l ≡ best_due round_above (take R ls) → Some l ≡ fullest_due R ss
  unfolding fullest_due
  fullest_found l e = e ∙ ap (best_due round_above) loads_are

  not_above : (l : RoundLoad) → IsBest round_above (take R ls) (Some l) → (k : ℕ) → k < R → round_above (round_load_of ss k) l ≡ false
  not_above l b k m = ap (λ (x : RoundLoad). round_above x l) (sym (at_first k none m)) ∙ best_none round_above round_ranks round_apart (take R ls) l b k none (omega (arith, long, m))

  pub fullest_is : (l : RoundLoad) → IsBest round_above (take R ls) (Some l) → Fullest R ss l
  fullest_is l b =
      let there = best_among round_above round_ranks round_apart (take R ls) l b in
      let low : there.0 < R = omega (arith, long, there.1) in
      let is : l ≡ round_load_of ss there.0 = sym there.2 ∙ at_first there.0 l low in
      let round : l.round ≡ there.0 = ap (λ (x : RoundLoad). x.round) is in
      record {
        round = omega (arith, round, low);
        counted = ap (λ (x : RoundLoad). x.count) is ∙ ap (λ k. in_round k ss) (sym round);
        most = λ k m. round_no_more (round_load_of ss k) l (not_above l b k m);
        first = λ k m e. not_above l b k m;
      }

pub ruleset filling = (counts_of_64, some_best, fullest_found, fullest_is)
