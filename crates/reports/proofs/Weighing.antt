-- The best of the loads is the most used node.
use Rattle.std.proofs.Common.{◌≡◌, ℕ, zero, suc, ◌+◌, ◌<◌, ◌≤◌, ◌≢◌, ◌⊎◌, Bool, true, false, cond, eqb, List, [], ◌∷◌, length, get_or, map, count_by, Some, None, Option, Contains, All, inl, inr, sym, ap, refl, ◌∙◌, ⊎_elim, arith}
use Rattle.std.proofs.lemmas.List.{get_or-map, length-map, nil_from_length}
use Rattle.std.proofs.lemmas.List.Sums.{sum_by-cons}
use Rattle.std.proofs.lemmas.List.FromFn.{get_or-map-range_with_len, length-map-range_with_len}
use Rattle.std.proofs.lemmas.List.Elements.{Contains-append_left, Contains-append_right, All-append, All-map}
use Rattle.std.proofs.lemmas.Bool.{cases_eq, cases_lt, cases_Bool, eq-eqb, ne_eqb}
use Rattle.ports.specs.declared.transfer.Transfer.{Transfer}
use Rattle.ports.specs.Checks.{lines_fit, nodes_fit}
use Rattle.timetables.specs.Loads.{transfer_at, BetweenNodes}
use Rattle.bookings.specs.declared.booking.Booking.{Booking}
use Rattle.bookings.specs.Model.{transfers, booking_at}
use Rattle.bookings.proofs.Facts.{below_512, length_transfers, transfer_place}
use Rattle.reports.specs.declared.loads.TransferSide.{TransferSide}
use Rattle.reports.specs.declared.loads.TransferSide.TheVariants.{Sending, Receiving}
use Rattle.reports.specs.declared.loads.NodeLoad.{NodeLoad}
use Rattle.reports.specs.Choice.{IsBest}
use Rattle.reports.specs.Loads.{node_above}
use Rattle.reports.specs.LoadLaws.{node_ranks, node_apart}
use Rattle.reports.specs.Heaviest.{node_on, load, load_of, named_loads, heaviest_due, Heaviest, IsHeaviest}
use Rattle.reports.specs.Steps.{Counts, NodesBelow, node_key, node_loads, MostOn}
use Rattle.reports.proofs.Choosing.{best_among, best_none, decided}
use Rattle.reports.proofs.Counting.{counts_of_512}
use Rattle.reports.proofs.Ranking.{node_no_more, node_fewer}

abbrev none : NodeLoad
none = record { side = Sending; node = 0; count = 0 }

abbrev alone : TransferSide → ℕ → ℕ → NodeLoad
alone s v c = record { side = s; node = v; count = c }

abbrev nothing : Transfer
nothing = record { sender = 0; receiver = 0 }

-- ---- counts of a key

module _ {X : Type 0} (key : X → ℕ) where
  abbrev counts : ℕ → List X → ℕ
  counts v xs = count_by (λ x. eqb (key x) v) xs

  one_more : (v : ℕ) (x : X) (xs : List X) → counts v (x ∷ xs) ≡ cond (eqb (key x) v) 1 0 + counts v xs
  one_more v x xs = sum_by-cons (λ y. cond (eqb (key y) v) 1 0) x xs

  -- what is counted is there
  counted_there : (v : ℕ) (d : X) (xs : List X) → 0 < counts v xs → (i : ℕ) × (i < length xs) × (key (get_or xs i d) ≡ v)
  counted_there v d [] l = absurd (omega arith)
  counted_there v d (x ∷ xs) l =
      ⊎_elim
      (λ (e : key x ≡ v). (0, omega arith, e))
      (λ (ne : key x ≢ v).
      let z : cond (eqb (key x) v) 1 0 ≡ 0 = ap (λ (t : Bool). cond {A = ℕ} t 1 0) (ne_eqb (key x) v ne) in
      let h = counted_there v d xs (omega (arith, one_more v x xs, z, l)) in (suc h.0, omega (arith, h.1), h.2))
      (cases_eq (key x) v)

  -- and what is there is counted
  there_counted : (v : ℕ) (d : X) (xs : List X) (i : ℕ) → i < length xs → key (get_or xs i d) ≡ v → 0 < counts v xs
  there_counted v d [] i l e = absurd (omega arith)
  there_counted v d (x ∷ xs) zero l e =
      let z : cond (eqb (key x) v) 1 0 ≡ 1 = ap (λ (t : Bool). cond {A = ℕ} t 1 0) (eq-eqb (key x) v e) in omega (arith, one_more v x xs, z)
  there_counted v d (x ∷ xs) (suc i) l e = omega (arith, one_more v x xs, there_counted v d xs i (omega arith) e)

-- counts over what a map gives
counts_map : {X Y : Type 0} (key : Y → ℕ) (f : X → Y) (v : ℕ) (xs : List X) → counts key v (map f xs) ≡ counts (λ x. key (f x)) v xs
counts_map key f v [] = refl
counts_map key f v (x ∷ xs) = omega (arith, one_more key v (f x) (map f xs), one_more (λ y. key (f y)) v x xs, counts_map key f v xs)

load_counts : (s : TransferSide) (v : ℕ) (ts : List Transfer) → load s v ts ≡ counts (node_on s) v ts
load_counts Sending v ts = refl
load_counts Receiving v ts = refl

named_there : (s : TransferSide) (v : ℕ) (ts : List Transfer) → 0 < load s v ts → (i : ℕ) × (i < length ts) × (node_on s (transfer_at ts i) ≡ v)
named_there s v ts l = counted_there (node_on s) v nothing ts (rw (← load_counts s v ts) l)

-- ---- the best of one side

module _ (s : TransferSide) (xs : List Booking) (cs : List ℕ) (ls : List NodeLoad) (h : Counts (node_key s) xs cs) (long : length cs ≡ 512) (filled : ls ≡ node_loads s cs) where
  load_is : (v : ℕ) → v < 512 → get_or cs v 0 ≡ load s v (transfers xs)
  unfolding Counts
  load_is v m = h v (omega (arith, long, m)) ∙ sym (counts_map (node_on s) (λ (x : Booking). x.transfer) v xs) ∙ sym (load_counts s v (transfers xs))

  at : (v : ℕ) (d : NodeLoad) → v < 512 → get_or ls v d ≡ load_of s (transfers xs) v
  unfolding node_loads
  at v d m =
      ap (λ (ys : List NodeLoad). get_or ys v d) filled
      ∙ get_or-map-range_with_len {X = NodeLoad} (λ u. record { side = s; node = u; count = get_or cs u 0 }) 0 512 v v d m (omega arith)
      ∙ ap (λ (c : ℕ). alone s v c) (load_is v m)

  as_many : length ls ≡ 512
  unfolding node_loads
  as_many = ap length filled ∙ length-map-range_with_len {X = NodeLoad} (λ v. record { side = s; node = v; count = get_or cs v 0 }) 0 512

  pub most_on : (l : NodeLoad) → IsBest node_above ls (Some l) → MostOn s (transfers xs) l
  unfolding MostOn
  most_on l b =
      let there = best_among node_above node_ranks node_apart ls l b in
      let low : there.0 < 512 = omega (arith, as_many, there.1) in
      let is : l ≡ load_of s (transfers xs) there.0 = sym there.2 ∙ at there.0 l low in (
        is ∙ ap (load_of s (transfers xs)) (sym (ap (λ (x : NodeLoad). x.node) is)),
        λ v m. ap (λ (x : NodeLoad). node_above x l) (sym (at v none m)) ∙ best_none node_above node_ranks node_apart ls l b v none (omega (arith, as_many, m)),
      )

  pub some_on : IsBest node_above ls None → ⊥
  unfolding IsBest
  some_on b = omega (arith, as_many, ap length b)

-- ---- the most used node is the best of the loads of nodes that are named

module _ (ts : List Transfer) (l : NodeLoad) (h : Heaviest ts l) where
  none_above : (s : TransferSide) (v : ℕ) → node_above (load_of s ts v) l ≡ false
  none_above s v =
      ⊎_elim
      (λ (m : load s v ts < l.count). node_fewer (load_of s ts v) l m)
      (λ (m : l.count ≤ load s v ts). h.first s v (omega (arith, m, h.most s v)))
      (cases_lt (load s v ts) l.count)

  named : (s : TransferSide) → l.side ≡ s → (i : ℕ) → i < length ts → node_on s (transfer_at ts i) ≡ l.node → load_of s ts (node_on s (transfer_at ts i)) ≡ l
  named s e i low f =
      let c : load s l.node ts ≡ l.count = ap (λ t. load t l.node ts) (sym e) ∙ sym h.counted in
      let z : ◌≡◌ {A = NodeLoad} (record { side = s; node = node_on s (transfer_at ts i); count = load s (node_on s (transfer_at ts i)) ts }) (record { side = l.side; node = l.node; count = l.count }) = rw (f, c, e) refl in z

  there : (s : TransferSide) → l.side ≡ s → (i : ℕ) × (i < length ts) × (node_on s (transfer_at ts i) ≡ l.node)
  there s e = named_there s l.node ts (omega (arith, h.used, h.counted, ap (λ t. load t l.node ts) e))

  among : (s : TransferSide) → l.side ≡ s → Contains (named_loads ts) l
  among Sending e =
      let t = there Sending e in
      let f : Transfer → NodeLoad = λ t. load_of Sending ts t.sender in
      Contains-append_left (map f ts) (map (λ t. load_of Receiving ts t.receiver) ts) l (t.0, omega (arith, length-map ts f, t.1), get_or-map f ts t.0 nothing l t.1 ∙ named Sending e t.0 t.1 t.2)
  among Receiving e =
      let t = there Receiving e in
      let f : Transfer → NodeLoad = λ t. load_of Receiving ts t.receiver in
      Contains-append_right (map (λ t. load_of Sending ts t.sender) ts) (map f ts) l (t.0, omega (arith, length-map ts f, t.1), get_or-map f ts t.0 nothing l t.1 ∙ named Receiving e t.0 t.1 t.2)

  over : (s : TransferSide) (v : ℕ) → (load_of s ts v ≡ l) ⊎ (node_above l (load_of s ts v) ≡ true)
  over s v =
      ⊎_elim
      (λ (e : node_above l (load_of s ts v) ≡ true). inr e)
      (λ (e : node_above l (load_of s ts v) ≡ false). inl (node_apart (load_of s ts v) l (none_above s v) e))
      (cases_Bool (node_above l (load_of s ts v)))

  over_all : All (λ y. (y ≡ l) ⊎ (node_above l y ≡ true)) (named_loads ts)
  over_all =
      let P : NodeLoad → Type 0 = λ y. (y ≡ l) ⊎ (node_above l y ≡ true) in
      All-append P (map (λ t. load_of Sending ts t.sender) ts) (map (λ t. load_of Receiving ts t.receiver) ts)
      (All-map P (λ t. load_of Sending ts t.sender) ts (λ k d m. over Sending (get_or ts k d).sender))
      (All-map P (λ t. load_of Receiving ts t.receiver) ts (λ k d m. over Receiving (get_or ts k d).receiver))

-- ---- the best of both sides is the most used node

module _ (ts : List Transfer) (small : (s : TransferSide) (i : ℕ) → i < length ts → node_on s (transfer_at ts i) < 512) (x y l : NodeLoad) (hx : MostOn Sending ts x) (hy : MostOn Receiving ts y) (b : IsBest node_above (x ∷ y ∷ []) (Some l)) where
  below : (s : TransferSide) (v : ℕ) → v < 512 → node_above (load_of s ts v) l ≡ false
  unfolding MostOn
  below Sending v m = node_ranks.chain (load_of Sending ts v) x l (hx.1 v m) (best_none node_above node_ranks node_apart (x ∷ y ∷ []) l b 0 none (omega arith))
  below Receiving v m = node_ranks.chain (load_of Receiving ts v) y l (hy.1 v m) (best_none node_above node_ranks node_apart (x ∷ y ∷ []) l b 1 none (omega arith))

  on_side : (s : TransferSide) (z : NodeLoad) → MostOn s ts z → z ≡ l → l ≡ load_of l.side ts l.node
  unfolding MostOn
  on_side s z h e =
      let is : l ≡ load_of s ts l.node = sym e ∙ h.0 ∙ ap (λ (u : NodeLoad). load_of s ts u.node) e in
      let side : s ≡ l.side = sym (ap (λ (u : NodeLoad). u.side) is) in
      is ∙ ap (λ t. load_of t ts l.node) side

  loaded_at : (k : ℕ) → k < length (x ∷ y ∷ []) → get_or (x ∷ y ∷ []) k l ≡ l → l ≡ load_of l.side ts l.node
  loaded_at zero m e = on_side Sending x hx e
  loaded_at (suc zero) m e = on_side Receiving y hy e
  loaded_at (suc (suc k)) m e = absurd (omega arith)

  loaded : l ≡ load_of l.side ts l.node
  loaded = let h = best_among node_above node_ranks node_apart (x ∷ y ∷ []) l b in loaded_at h.0 h.1 h.2

  is_low : (s : TransferSide) (v : ℕ) → 0 < load s v ts → v < 512
  is_low s v m = let h = named_there s v ts m in omega (arith, small s h.0 h.1, h.2)

  at_most : (s : TransferSide) (v : ℕ) → load s v ts ≤ l.count
  at_most s v =
      ⊎_elim
      (λ (m : 0 < load s v ts). node_no_more (load_of s ts v) l (below s v (is_low s v m)))
      (λ (m : load s v ts ≤ 0). omega (arith, m))
      (cases_lt 0 (load s v ts))

  two_sides : 0 < l.count → Heaviest ts l
  two_sides some = record {
    used = some;
    counted = ap (λ (u : NodeLoad). u.count) loaded;
    most = at_most;
    first = λ s v e. below s v (is_low s v (omega (arith, some, e)));
  }

  two_unused : l.count ≡ 0 → ts ≡ []
  two_unused none_used =
      ⊎_elim
      (λ (m : 0 < length ts). let one = there_counted (λ t. t.sender) (transfer_at ts 0).sender nothing ts 0 m refl in absurd (omega (arith, one, at_most Sending (transfer_at ts 0).sender, none_used)))
      (λ (m : length ts ≤ 0). nil_from_length ts (omega (arith, m)))
      (cases_lt 0 (length ts))

-- ---- what is answered

heaviest_found : (ts : List Transfer) (o : Option NodeLoad) → IsHeaviest ts o → o ≡ heaviest_due ts
unfolding IsHeaviest IsBest heaviest_due
heaviest_found ts None e = rw e refl
heaviest_found ts (Some l) h = decided node_above node_ranks node_apart (named_loads ts) (Some l) (among ts l h l.side refl, over_all ts l h)

-- one of the two is the best
pub some_of_two : (x y : NodeLoad) → IsBest node_above (x ∷ y ∷ []) None → ⊥
unfolding IsBest
some_of_two x y h = absurd cc

-- the nodes of live transfers are below 512
node_low : (m n : ℕ) (ts : List Transfer) → lines_fit m ≡ true → nodes_fit n ≡ true → BetweenNodes m n ts → (s : TransferSide) (i : ℕ) → i < length ts → node_on s (transfer_at ts i) < 512
node_low m n ts lines nodes between Sending i l = below_512 m n (transfer_at ts i).sender lines nodes (between i l).0
node_low m n ts lines nodes between Receiving i l = below_512 m n (transfer_at ts i).receiver lines nodes (between i l).1

pub nodes_below : (m n : ℕ) (xs : List Booking) (s : TransferSide) → BetweenNodes m n (transfers xs) → lines_fit m ≡ true → nodes_fit n ≡ true → NodesBelow s xs 512
unfolding NodesBelow
nodes_below m n xs s between lines nodes i l = omega (arith, ap (node_on s) (transfer_place xs i l), node_low m n (transfers xs) lines nodes between s i (omega (arith, length_transfers xs, l)))

pub node_below : (s : TransferSide) (xs : List Booking) (n i k : ℕ) → NodesBelow s xs n → i < length xs → k ≡ node_key s (booking_at xs i) → k < n
unfolding NodesBelow
node_below s xs n i k h l e = omega (arith, h i l, e)

pub ruleset most_used_on = (nodes_below, most_on, some_on, counts_of_512)

-- the most used nodes of the two sides, and the better of them
module _ (m n : ℕ) (ts : List Transfer) (x y l : NodeLoad) (hx : MostOn Sending ts x) (hy : MostOn Receiving ts y) (best : IsBest node_above (x ∷ y ∷ []) (Some l)) (between : BetweenNodes m n ts) (lines : lines_fit m ≡ true) (nodes : nodes_fit n ≡ true) where
  pub most_used : 0 < l.count → IsHeaviest ts (Some l)
  unfolding IsHeaviest
  most_used some = two_sides ts (node_low m n ts lines nodes between) x y l hx hy best some

  pub none_used : l.count ≡ 0 → IsHeaviest ts None
  unfolding IsHeaviest
  none_used none_is = two_unused ts (node_low m n ts lines nodes between) x y l hx hy best none_is

  pub most_used_due : 0 < l.count → Some l ≡ heaviest_due ts
  most_used_due some = heaviest_found ts (Some l) (most_used some)

  pub none_used_due : l.count ≡ 0 → None ≡ heaviest_due ts
  none_used_due none_is = heaviest_found ts None (none_used none_is)

pub ruleset weighing = (some_of_two, most_used, most_used_due, none_used, none_used_due)
