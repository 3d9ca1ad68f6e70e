-- Counts of keys, with one key more; and the loads that are filled in by them.
use Rattle.std.proofs.Common.{◌≡◌, ℕ, ◌+◌, ◌<◌, ◌≤◌, ◌≢◌, eqb, List, [], length, get_or, set, take, replicate, count_by, sym, ◌∙◌, subst, ⊎_elim, arith}
use Rattle.std.proofs.lemmas.List.{get_or-set_same, get_or-set_other, get_or-replicate, length-set, length-replicate, length-take-le, take_all}
use Rattle.std.proofs.lemmas.List.FromFn.{fill_by_all}
use Rattle.std.proofs.lemmas.List.Edits.{fill_by_more}
use Rattle.std.proofs.lemmas.List.Sums.{count_by-le-length, count_by_more_yes, count_by_more_no}
use Rattle.std.proofs.lemmas.Bool.{cases_eq, eq-eqb, ne_eqb}
use Rattle.reports.specs.declared.loads.TransferSide.{TransferSide}
use Rattle.reports.specs.declared.loads.TransferSide.TheVariants.{Sending}
use Rattle.reports.specs.declared.loads.NodeLoad.{NodeLoad}
use Rattle.reports.specs.declared.loads.RoundLoad.{RoundLoad}
use Rattle.reports.specs.Steps.{Counts, node_loads, round_loads}

module _ {X : Type 0} (key : X → ℕ) where
  -- of nothing
  counts_of_none : (n : ℕ) → Counts key [] (replicate n 0)
  unfolding Counts
  counts_of_none n v l = get_or-replicate n v 0 0 (omega (arith, l, length-replicate {A = ℕ} n 0))

  pub counts_of_512 : Counts key [] (replicate 512 0)
  counts_of_512 = counts_of_none 512

  pub counts_of_64 : Counts key [] (replicate 64 0)
  counts_of_64 = counts_of_none 64

  pub counts_none : (xs : List X) (cs : List ℕ) → Counts key [] cs → Counts key (take 0 xs) cs
  counts_none xs cs h = h

  -- of one more, whose key is k
  module _ (xs : List X) (i : ℕ) (cs : List ℕ) (h : Counts key (take i xs) cs) (l : i < length xs) (d : X) (k : ℕ) (is : k ≡ key (get_or xs i d)) (low : k < length cs) where
    pub counts_few : length xs ≤ 1024 → get_or cs k 0 < 65535
    unfolding Counts
    counts_few few = omega (arith, h k low, count_by-le-length (λ x. eqb (key x) k) (take i xs), length-take-le i xs (omega (arith, l)), few, l)

    pub counts_more : Counts key (take (i + 1) xs) (set cs k (get_or cs k 0 + 1))
    unfolding Counts
    counts_more v m =
        ⊎_elim
        (λ (e : k ≡ v).
        let old : get_or cs v 0 ≡ count_by (λ x. eqb (key x) v) (take i xs) = h v (omega (arith, low, e)) in
        let same : get_or (set cs k (get_or cs k 0 + 1)) v 0 ≡ get_or cs v 0 + 1 = subst (λ u. get_or (set cs k (get_or cs k 0 + 1)) u 0 ≡ get_or cs u 0 + 1) e (get_or-set_same cs k (get_or cs k 0 + 1) 0 low) in
        omega (arith, same, old, count_by_more_yes (λ x. eqb (key x) v) xs i d l (eq-eqb (key (get_or xs i d)) v (sym is ∙ e))))
        (λ (ne : k ≢ v).
        get_or-set_other cs k v (get_or cs k 0 + 1) 0 (λ z. ne (omega arith))
        ∙ h v (omega (arith, m, length-set cs k (get_or cs k 0 + 1)))
        ∙ sym (count_by_more_no (λ x. eqb (key x) v) xs i d l (ne_eqb (key (get_or xs i d)) v (λ z. ne (is ∙ z)))))
        (cases_eq k v)

  -- of all
  pub counts_all : (xs : List X) (i : ℕ) (cs : List ℕ) → Counts key (take i xs) cs → length xs ≤ i → Counts key xs cs
  counts_all xs i cs h l = subst (λ ys. Counts key ys cs) (take_all i xs l) h

pub ruleset counting = (counts_none, counts_few, counts_more, counts_all)

-- ---- loads by counts

pub nodes_filled : (ls : List NodeLoad) (s : TransferSide) (cs : List ℕ) (i : ℕ) → ((v : ℕ) → v < i → get_or ls v (record { side = Sending; node = 0; count = 0 }) ≡ record { side = s; node = v; count = get_or cs v 0 }) → length ls ≡ 512 → 512 ≤ i → ls ≡ node_loads s cs
unfolding node_loads
nodes_filled ls s cs i h e l = fill_by_all (λ v. record { side = s; node = v; count = get_or cs v 0 }) ls 512 (record { side = Sending; node = 0; count = 0 }) e (λ v m. h v (omega (arith, m, l)))

pub rounds_filled : (ls : List RoundLoad) (cs : List ℕ) (i : ℕ) → ((k : ℕ) → k < i → get_or ls k (record { round = 0; count = 0 }) ≡ record { round = k; count = get_or cs k 0 }) → length ls ≡ 64 → 64 ≤ i → ls ≡ round_loads cs
unfolding round_loads
rounds_filled ls cs i h e l = fill_by_all (λ k. record { round = k; count = get_or cs k 0 }) ls 64 (record { round = 0; count = 0 }) e (λ k m. h k (omega (arith, m, l)))

pub ruleset node_filling = (nodes_filled, fill_by_more)

pub ruleset round_filling = (rounds_filled, fill_by_more)
