-- How many transfers a node sends, and how many it receives, where one transfer is added or taken out.
use Rattle.std.proofs.Common.{◌≡◌, ℕ, ◌+◌, ◌-◌, ◌<◌, ◌≤◌, Bool, cond, eqb, ◌≢◌, List, [], ◌∷◌, ◌++◌, length, get_or, set, count_by, ap, ⊎_elim, arith}
use Rattle.std.specs.List.{remove}
use Rattle.std.proofs.lemmas.List.Sums.{sum_by_push, sum_by-remove}
use Rattle.std.proofs.lemmas.List.{get_or-set_same, get_or-set_other}
use Rattle.std.proofs.lemmas.Bool.{cases_eq, eq-eqb, ne_eqb}
use Rattle.ports.specs.declared.transfer.Transfer.{Transfer}
use Rattle.bookings.specs.Counts.{Counted}

-- 1 where the two nodes are one, else 0
abbrev pub one : ℕ → ℕ → ℕ
one w v = cond (eqb w v) 1 0

pub one_same : (w v : ℕ) → w ≡ v → one w v ≡ 1
one_same w v e = ap (λ (t : Bool). cond {A = ℕ} t 1 0) (eq-eqb w v e)

pub one_other : (w v : ℕ) → w ≢ v → one w v ≡ 0
one_other w v ne = ap (λ (t : Bool). cond {A = ℕ} t 1 0) (ne_eqb w v ne)

-- the count at w raised, and lowered
pub set_more : (ns : List ℕ) (w : ℕ) → w < length ns → (v : ℕ) → get_or (set ns w (get_or ns w 0 + 1)) v 0 ≡ get_or ns v 0 + one w v
set_more ns w l v =
    ⊎_elim
    (λ (e : w ≡ v). let same : get_or (set ns w (get_or ns w 0 + 1)) v 0 ≡ get_or ns w 0 + 1 = rw (← e) (get_or-set_same ns w (get_or ns w 0 + 1) 0 l) in
    omega (arith, same, one_same w v e, ap (λ x. get_or ns x 0) e))
    (λ (ne : w ≢ v). omega (arith, get_or-set_other ns w v (get_or ns w 0 + 1) 0 (λ z. ne (omega arith)), one_other w v ne))
    (cases_eq w v)

pub set_less : (ns : List ℕ) (w : ℕ) → w < length ns → 0 < get_or ns w 0 → (v : ℕ) → get_or (set ns w (get_or ns w 0 - 1)) v 0 + one w v ≡ get_or ns v 0
set_less ns w l some v =
    ⊎_elim
    (λ (e : w ≡ v). let same : get_or (set ns w (get_or ns w 0 - 1)) v 0 ≡ get_or ns w 0 - 1 = rw (← e) (get_or-set_same ns w (get_or ns w 0 - 1) 0 l) in
    omega (arith, same, one_same w v e, ap (λ x. get_or ns x 0) e))
    (λ (ne : w ≢ v). omega (arith, get_or-set_other ns w v (get_or ns w 0 - 1) 0 (λ z. ne (omega arith)), one_other w v ne))
    (cases_eq w v)

-- the count of the keys that are v, by a key of each element
module _ {X : Type 0} (key : X → ℕ) where
  abbrev pub load : ℕ → List X → ℕ
  load v xs = count_by (λ x. eqb (key x) v) xs

  pub load_push : (xs : List X) (x : X) (v : ℕ) → load v (xs ++ x ∷ []) ≡ load v xs + one (key x) v
  load_push xs x v = sum_by_push (λ y. cond (eqb (key y) v) 1 0) xs x

  pub load_remove : (xs : List X) (i : ℕ) (d : X) → i < length xs → (v : ℕ) → load v (remove xs i) + one (key (get_or xs i d)) v ≡ load v xs
  load_remove xs i d l v = sum_by-remove (λ y. cond (eqb (key y) v) 1 0) xs i d l

  pub load_within : (xs : List X) (x : X) (R : ℕ) → ((v : ℕ) → load v xs ≤ R) → load (key x) xs < R → (v : ℕ) → load v (xs ++ x ∷ []) ≤ R
  load_within xs x R h less v =
      ⊎_elim
      (λ (e : key x ≡ v). let l : load v xs < R = rw (← e) less in omega (arith, load_push xs x v, one_same (key x) v e))
      (λ (ne : key x ≢ v). omega (arith, load_push xs x v, one_other (key x) v ne, h v))
      (cases_eq (key x) v)

-- the counts of a transfer more
pub counted_push : (ts : List Transfer) (t : Transfer) (sent received : List ℕ) → Counted sent received ts → t.sender < length sent → t.receiver < length received
    → Counted (set sent t.sender (get_or sent t.sender 0 + 1)) (set received t.receiver (get_or received t.receiver 0 + 1)) (ts ++ t ∷ [])
counted_push ts t sent received h s r = record {
  sends = λ v. omega (arith, set_more sent t.sender s v, load_push (λ x. x.sender) ts t v, h.sends v);
  receives = λ v. omega (arith, set_more received t.receiver r v, load_push (λ x. x.receiver) ts t v, h.receives v);
}
