-- Counts with one bit set are powers of two; and what powers of two and the room for splits give in numbers.
use Rattle.std.specs.Prelude.{◌≡◌, ℕ, zero, suc, ◌+◌, ◌-◌, ◌*◌, ◌/◌, ◌%◌, ◌^◌, ◌<◌, ◌≤◌, true, ◌≢◌, ◌==◌, nat_le, refl}
use Rattle.std.proofs.Common.{sym, ap, ◌∙◌, ⊎_elim, mul-add, mul-le-mul_left, mul-le-mul_right, arith, add-one, pow_mono}
use Rattle.std.proofs.Math.Nat.{two-pow-succ}
use Rattle.std.specs.Int.Count.{ones, ones_in, ones_step, count_trailing_zeros, under}
use Rattle.std.proofs.lemmas.Bool.{cases_eq, cases_lt, and_parts, eqb-true, leb-true}
use Rattle.euler.specs.Halves.{one_bit_to_64}

ones_zero : (k n : ℕ) → n < 2 ^ k → ones n ≡ 0 → n ≡ 0
ones_zero zero n l h = omega arith
ones_zero (suc k) n l h =
    let s = ones_step n in
    let half : n / 2 ≡ 0 = ones_zero k (n / 2) (omega (arith, two-pow-succ k)) (omega arith) in
    omega arith

under_odd : (d t : ℕ) → 0 < d → under d t ≡ 0
under_odd zero t l = absurd (omega arith)
under_odd (suc d) t l = refl

none : ones 0 ≡ 0
unfolding ones ones_in
none = refl

-- a number with one bit set is the power of two that its zeros below say
one_bit : (k n : ℕ) → n < 2 ^ k → ones n ≡ 1 → n ≡ 2 ^ count_trailing_zeros k n
unfolding count_trailing_zeros
one_bit zero n l h = absurd (let z : n ≡ 0 = omega arith in let o : ones n ≡ 0 = ap ones z ∙ none in omega arith)
one_bit (suc k) n l h =
    let s = ones_step n in
    ⊎_elim
    (λ (z : n % 2 ≡ 0).
    let ih : n / 2 ≡ 2 ^ count_trailing_zeros k (n / 2) = one_bit k (n / 2) (omega (arith, two-pow-succ k)) (omega arith) in
    let t : under (n % 2) (count_trailing_zeros k (n / 2)) ≡ suc (count_trailing_zeros k (n / 2)) = ap (λ d. under d (count_trailing_zeros k (n / 2))) z in
    let p : 2 ^ under (n % 2) (count_trailing_zeros k (n / 2)) ≡ 2 ^ count_trailing_zeros k (n / 2) + 2 ^ count_trailing_zeros k (n / 2) = ap (λ y. 2 ^ y) t ∙ two-pow-succ (count_trailing_zeros k (n / 2)) in
    omega arith)
    (λ (z : n % 2 ≢ 0).
    let half : n / 2 ≡ 0 = ones_zero k (n / 2) (omega (arith, two-pow-succ k)) (omega arith) in
    let t : under (n % 2) (count_trailing_zeros k (n / 2)) ≡ 0 = under_odd (n % 2) (count_trailing_zeros k (n / 2)) (omega arith) in
    let p : 2 ^ under (n % 2) (count_trailing_zeros k (n / 2)) ≡ 1 = ap (λ y. 2 ^ y) t in
    omega arith)
    (cases_eq (n % 2) 0)

-- a count that is served is a power of two, at most the sixth
pub served_power : (c : ℕ) → c < 256 → one_bit_to_64 c ≡ true → (c ≡ 2 ^ count_trailing_zeros 8 c) × (count_trailing_zeros 8 c ≤ 6)
served_power c l h =
    let p = and_parts (ones c == 1) (nat_le c 64) h in
    let b : c ≡ 2 ^ count_trailing_zeros 8 c = one_bit 8 c l (eqb-true (ones c) 1 p.0) in (
      b,
      ⊎_elim (λ (z : count_trailing_zeros 8 c < 7). omega arith) (λ (z : 7 ≤ count_trailing_zeros 8 c). absurd (let big : 2 ^ 7 ≤ 2 ^ count_trailing_zeros 8 c = pow_mono z in omega (arith, leb-true c 64 p.1))) (cases_lt (count_trailing_zeros 8 c) 7),
    )

-- and lies in 1 to 64
pub served_within : (c : ℕ) → one_bit_to_64 c ≡ true → (1 ≤ c) × (c ≤ 64)
served_within c h =
    let p = and_parts (ones c == 1) (nat_le c 64) h in (
      ⊎_elim (λ (z : c ≡ 0). absurd (let o : ones c ≡ 0 = ap ones z ∙ none in omega (arith, eqb-true (ones c) 1 p.0))) (λ (z : c ≢ 0). omega arith) (cases_eq c 0),
      leb-true c 64 p.1,
    )

-- room for two copies of n lines for each of the splits that are left
pub room_low : (n m s r : ℕ) → s + 1 ≤ r → 2 * n * r ≤ m → n + n ≤ m
room_low n m s r l h =
    let a : 2 * n * (s + 1) ≤ 2 * n * r = mul-le-mul_left (2 * n) l in
    omega (arith, mul-add (2 * n) s 1)

pub room_rest : (n k m s r : ℕ) → s + 1 ≡ r → k ≤ n → 2 * n * r ≤ m → 2 * k * s + n + n ≤ m
room_rest n k m s r e l h =
    let a : 2 * k * s ≤ 2 * n * s = mul-le-mul_right s (let q : 2 * k ≤ 2 * n = omega arith in q) in
    let b : 2 * n * r ≡ 2 * n * s + 2 * n * 1 = ap (λ z. 2 * n * z) (sym e) ∙ mul-add (2 * n) s 1 in
    omega arith

pub next_power : (s r : ℕ) → s + 1 ≡ r → 2 ^ r ≡ 2 ^ s + 2 ^ s
next_power s r e = ap (λ k. 2 ^ k) (sym e ∙ add-one s) ∙ two-pow-succ s

pub half_power : (c s : ℕ) → 0 < s → c ≡ 2 ^ s → c / 2 ≡ 2 ^ (s - 1)
half_power c s l e = omega (arith, next_power (s - 1) s (omega arith))

-- a count of several colours can be split
pub several : (c s : ℕ) → c ≡ 2 ^ s → c ≢ 1 → 0 < s
several c s e ne = ⊎_elim (λ (z : s ≡ 0). absurd (ne (e ∙ ap (λ k. 2 ^ k) z))) (λ (z : s ≢ 0). omega arith) (cases_eq s 0)

pub same_power : (s z r : ℕ) → s + 1 ≡ r → z + 1 ≡ r → 2 ^ z ≡ 2 ^ s
same_power s z r a b = ap (λ k. 2 ^ k) (let e : z ≡ s = omega arith in e)

-- room for two copies of 1,024 lines at each of six splits
pub room_six : (n s : ℕ) → n ≤ 1024 → s ≤ 6 → 2 * n * s ≤ 12288
room_six n s a b =
    let p : 2 * n * s ≤ 2 * n * 6 = mul-le-mul_left (2 * n) b in
    omega arith
