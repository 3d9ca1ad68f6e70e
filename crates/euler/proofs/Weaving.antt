-- Shares of lines that are dealt into halves and put together again.
use Rattle.std.proofs.Common.{◌≡◌, ℕ, zero, suc, ◌+◌, ◌*◌, ◌<◌, ◌≤◌, Bool, true, false, cond, not, eqb, ◌≢◌, List, [], ◌∷◌, ◌++◌, length, get_or, take, drop, count_by, filter, sym, refl, ap, ◌∙◌, ⊎_elim, length-take-le, mul-add, mul-le-mul_right, arith}
use Rattle.std.proofs.lemmas.List.Sums.{length-filter, count_by-le-length}
use Rattle.std.proofs.lemmas.Bool.{cases_eq, cases_lt, eq-eqb, ne_eqb}
use Rattle.std.proofs.lemmas.Bool.Decides.{nat_tests}
use Rattle.lines.specs.declared.line.Line.{Line}
use Rattle.lines.specs.declared.line.Side.{Side}
use Rattle.lines.specs.declared.line.Side.TheVariants.{Left, Right}
use Rattle.lines.specs.Lines.{ends, colours, end_at, end_of, on, degree, DegreesWithin, Inside, Proper}
use Rattle.lines.proofs.Places.{end_line, colour_line, length_ends, length_colours, same_length, both}
use Rattle.euler.specs.Halves.{stands, share, Halved}
use Rattle.euler.specs.Spreads.{is_low, is_high, recoloured, weave, Spread}
use Rattle.euler.proofs.Counting.{one, count_cons, count_some, count_one, stands_from}

on_end : (s : Side) (l : Line) → on s (both l) ≡ end_of s l
on_end Left l = refl
on_end Right l = refl

-- the degree of an end among lines with the end or without it
degree_cons : (s : Side) (v : ℕ) (l : Line) (ls : List Line) → degree s v (ends (l ∷ ls)) ≡ cond (eqb (end_of s l) v) 1 0 + degree s v (ends ls)
degree_cons s v l ls = count_cons (λ p. eqb (on s p) v) (both l) (ends ls) ∙ ap (λ y. cond (eqb y v) 1 0 + degree s v (ends ls)) (on_end s l)

share_cons : (s : Side) (v z : ℕ) (l : Line) (ls : List Line) → share s v z (l ∷ ls) ≡ cond (stands s v z l) 1 0 + share s v z ls
share_cons s v z l ls = count_cons (stands s v z) l ls

-- lines of two colours
abbrev Two : List Line → Type 0
Two ls = (k : ℕ) → k < length ls → get_or (colours ls) k 0 < 2

two_rest : (l : Line) (ls : List Line) → Two (l ∷ ls) → Two ls
two_rest l ls h k lt = h (suc k) (omega arith)

pub shares_degree : (s : Side) (v : ℕ) (ls : List Line) → Two ls → share s v 0 ls + share s v 1 ls ≡ degree s v (ends ls)
shares_degree s v [] h = refl
shares_degree s v (l ∷ ls) h =
    let ih = shares_degree s v ls (two_rest l ls h) in
    let low : l.colour < 2 = h 0 (omega arith) in
    grind (arith, nat_tests, degree_cons s v l ls, share_cons s v 0 l ls, share_cons s v 1 l ls)

kept_yes : (p : Line → Bool) (l : Line) (ls : List Line) → p l ≡ true → filter p (l ∷ ls) ≡ l ∷ filter p ls
kept_yes p l ls h = ap (λ (t : Bool). cond t (l ∷ filter p ls) (filter p ls)) h

kept_not : (p : Line → Bool) (l : Line) (ls : List Line) → p l ≡ false → filter p (l ∷ ls) ≡ filter p ls
kept_not p l ls h = ap (λ (t : Bool). cond t (l ∷ filter p ls) (filter p ls)) h

pub low_yes : (l : Line) → l.colour ≡ 0 → is_low l ≡ true
low_yes l z = eq-eqb l.colour 0 z

pub low_not : (l : Line) → l.colour ≢ 0 → is_low l ≡ false
low_not l z = ne_eqb l.colour 0 z

pub high_yes : (l : Line) → l.colour ≢ 0 → is_high l ≡ true
high_yes l z = ap not (low_not l z)

pub high_not : (l : Line) → l.colour ≡ 0 → is_high l ≡ false
high_not l z = ap not (low_yes l z)

-- the degree among the lines that pass, which are those of the colour z
kept_degree : (p : Line → Bool) (z : ℕ) → ((l : Line) → l.colour < 2 → (l.colour ≡ z → p l ≡ true) × (l.colour ≢ z → p l ≡ false))
    → (s : Side) (v : ℕ) (ls : List Line) → Two ls → degree s v (ends (filter p ls)) ≡ share s v z ls
kept_degree p z passes s v [] h = refl
kept_degree p z passes s v (l ∷ ls) h =
    let ih = kept_degree p z passes s v ls (two_rest l ls h) in
    let here = passes l (h 0 (omega arith)) in
    grind (arith, nat_tests, degree_cons s v l (filter p ls), share_cons s v z l ls)

-- each half has at most half the degrees
pub half_degrees : (ls ms : List Line) (a b c : ℕ) → Halved ls ms → a + b ≡ c → a ≡ b → DegreesWithin c (ends ls) → DegreesWithin a (ends (filter is_low ms)) × DegreesWithin b (ends (filter is_high ms))
half_degrees ls ms a b c h e same within = (
  (λ s v. omega (arith, kept_degree is_low 0 (λ l _. (λ y. grind (arith, nat_tests), λ y. grind (arith, nat_tests))) s v ms h.two, shares_degree s v ms h.two, h.even s v, within s v, ap (degree s v) h.same)),
  (λ s v. omega (arith, kept_degree is_high 1 (λ l two. (λ y. grind (arith, nat_tests), λ y. grind (arith, nat_tests))) s v ms h.two, shares_degree s v ms h.two, h.even s v, within s v, ap (degree s v) h.same)),
)

pub kept_fewer : (p : Line → Bool) (ls : List Line) → length (filter p ls) ≤ length ls
kept_fewer p ls = omega (arith, length-filter p ls, count_by-le-length p ls)

inside_cons : (y : Line) (ys : List Line) → y.left < 512 → y.right < 512 → Inside (ends ys) → Inside (ends (y ∷ ys))
inside_cons y ys a b i Left zero l = a
inside_cons y ys a b i Right zero l = b
inside_cons y ys a b i s (suc k) l = i s k (omega arith)

pub inside_kept : (p : Line → Bool) (ls : List Line) → Inside (ends ls) → Inside (ends (filter p ls))
inside_kept p [] h = λ s k l. absurd (omega arith)
inside_kept p (x ∷ ls) h =
    let rest : Inside (ends ls) = λ s k l. h s (suc k) (omega arith) in
    let ih = inside_kept p ls rest in
    let one = inside_cons x (filter p ls) (h Left 0 (omega arith)) (h Right 0 (omega arith)) ih in
    λ s k l. grind arith

-- the lines of a half are as few and their ends as low, and there is room for them at one split fewer
pub half_ready : (p : Line → Bool) (ls ms zs : List Line) (r s left room : ℕ) → Halved ls ms → zs ≡ filter p ms → s + 1 ≡ r → 2 * length ls * r ≤ room → left + 2 * length ms ≡ room
    → (length zs ≤ length ls) × (Inside (ends ls) → Inside (ends zs)) × (2 * length zs * s ≤ left)
half_ready p ls ms zs r s left room h e step fits rest =
    let same : length ms ≡ length ls = same_length ls ms h.same in
    let fewer : length zs ≤ length ls = omega (arith, ap length e, kept_fewer p ms) in
    let low : 2 * length zs * s ≤ 2 * length ls * s = mul-le-mul_right s (omega arith) in
    let whole : 2 * length ls * r ≡ 2 * length ls * s + 2 * length ls * 1 = ap (λ z. 2 * length ls * z) (sym step) ∙ mul-add (2 * length ls) s 1 in
    (fewer, (λ inside. rw e (inside_kept p ms (rw h.same inside))), omega arith)

-- putting lines together
weave_yes : (l : Line) (ls xs ys : List Line) → is_low l ≡ true → weave (l ∷ ls) xs ys ≡ recoloured l (get_or xs 0 l).colour ∷ weave ls (drop 1 xs) ys
weave_yes l ls xs ys h = rw h refl

weave_not : (l : Line) (ls xs ys : List Line) → is_low l ≡ false → weave (l ∷ ls) xs ys ≡ recoloured l (get_or ys 0 l).colour ∷ weave ls xs (drop 1 ys)
weave_not l ls xs ys h = rw h refl

-- a line with the ends of another
same_line : (l x : Line) → both x ≡ both l → x ≡ recoloured l x.colour
same_line l x e = ap (λ (p : ℕ × ℕ). record x { left = p.0; right = p.1 }) e

-- the first of lines with the ends of others, and the rest
same_parts : (l : Line) (ls xs : List Line) → ends xs ≡ ends (l ∷ ls) → (xs ≡ recoloured l (get_or xs 0 l).colour ∷ drop 1 xs) × (ends (drop 1 xs) ≡ ends ls)
same_parts l ls [] e = absurd (omega (arith, ap length e))
same_parts l ls (x ∷ xs) e = (ap (λ (y : Line). y ∷ xs) (same_line l x cc), cc)

pub weave_count : (q : Line → Bool) (ls xs ys : List Line) → ends xs ≡ ends (filter is_low ls) → ends ys ≡ ends (filter is_high ls) → count_by q (weave ls xs ys) ≡ count_by q xs + count_by q ys
weave_count q [] [] [] a b = refl
weave_count q [] (x ∷ xs) ys a b = absurd (omega (arith, ap length a))
weave_count q [] [] (y ∷ ys) a b = absurd (omega (arith, ap length b))
weave_count q (l ∷ ls) xs ys a b =
    ⊎_elim
    (λ (z : l.colour ≡ 0).
    let p = same_parts l (filter is_low ls) xs (a ∙ ap ends (kept_yes is_low l ls (low_yes l z))) in
    let ih = weave_count q ls (drop 1 xs) ys p.1 (b ∙ ap ends (kept_not is_high l ls (high_not l z))) in
    grind (arith, nat_tests, count_cons q))
    (λ (z : l.colour ≢ 0).
    let p = same_parts l (filter is_high ls) ys (b ∙ ap ends (kept_yes is_high l ls (high_yes l z))) in
    let ih = weave_count q ls xs (drop 1 ys) (a ∙ ap ends (kept_not is_low l ls (low_not l z))) p.1 in
    grind (arith, nat_tests, count_cons q))
    (cases_eq l.colour 0)

pub weave_ends : (ls xs ys : List Line) → ends (weave ls xs ys) ≡ ends ls
weave_ends [] xs ys = refl
weave_ends (l ∷ ls) xs ys =
    let low = weave_ends ls (drop 1 xs) ys in
    let high = weave_ends ls xs (drop 1 ys) in
    grind arith

-- two halves with colours of their own
pub spread_both : (ls xs ys : List Line) (first f g a b c : ℕ) → f ≡ first → g ≡ first + a → a + b ≡ c → ends xs ≡ ends (filter is_low ls) → ends ys ≡ ends (filter is_high ls)
    → Spread f a xs → Spread g b ys → Spread first c (weave ls xs ys)
spread_both ls xs ys first f g a b c ef eg e lx ly low high =
    let sum : (s : Side) (v z : ℕ) → share s v z (weave ls xs ys) ≡ share s v z xs + share s v z ys = λ s v z. weave_count (stands s v z) ls xs ys lx ly in
    record {
      single = λ s v z. grind (arith, sum s v z, low.single s v z, low.high s v z, high.single s v z, high.low s v z);
      low = λ s v z l. omega (arith, sum s v z, low.low s v z (omega arith), high.low s v z (omega arith));
      high = λ s v z l. omega (arith, sum s v z, low.high s v z (omega arith), high.high s v z (omega arith));
    }

share_le : (s : Side) (v z : ℕ) (ls : List Line) → share s v z ls ≤ degree s v (ends ls)
share_le s v z [] = omega arith
share_le s v z (l ∷ ls) =
    let ih = share_le s v z ls in
    grind (arith, nat_tests, degree_cons s v l ls, share_cons s v z l ls)

share_none : (s : Side) (v z first : ℕ) (ls : List Line) → ((k : ℕ) → k < length ls → get_or (colours ls) k 0 ≡ first) → first ≢ z → share s v z ls ≡ 0
share_none s v z first [] h ne = refl
share_none s v z first (l ∷ ls) h ne =
    let e : l.colour ≡ first = h 0 (omega arith) in
    let ih = share_none s v z first ls (λ k lt. h (suc k) (omega arith)) ne in
    grind (arith, nat_tests, share_cons s v z l ls)

-- lines of one colour, no two of which have a common end
pub spread_one : (ls ms : List Line) (first c : ℕ) → c ≡ 1 → DegreesWithin c (ends ls) → ends ms ≡ ends ls → ((k : ℕ) → k < length ls → get_or (colours ms) k 0 ≡ first) → Spread first c ms
spread_one ls ms first c one within e h =
    let h' : (k : ℕ) → k < length ms → get_or (colours ms) k 0 ≡ first = λ k l. h k (omega (arith, same_length ls ms e)) in
    record {
      single = λ s v z. omega (arith, share_le s v z ms, within s v, ap (degree s v) e);
      low = λ s v z l. share_none s v z first ms h' (omega arith);
      high = λ s v z l. share_none s v z first ms h' (omega arith);
    }

abbrev nought : Line
nought = record { left = 0; right = 0; colour = 0 }

-- the colours from 0 on are a proper edge colouring
pub proper_from : (ls : List Line) (c : ℕ) → Spread 0 c ls → Proper c (ends ls) (colours ls)
proper_from ls c w =
    let n = length_ends ls in
    let here : (s : Side) (k : ℕ) → k < length ls → stands s (end_at (ends ls) s k) (get_or (colours ls) k 0) (get_or ls k nought) ≡ true
    = λ s k l. stands_from s (end_at (ends ls) s k) (get_or (colours ls) k 0) (get_or ls k nought) (sym (end_line ls s k nought l)) (sym (colour_line ls k nought l)) in
    record {
      each = length_colours ls ∙ sym n;
      below = λ k l. ⊎_elim
          (λ (z : get_or (colours ls) k 0 < c). z)
          (λ (z : c ≤ get_or (colours ls) k 0).
          let lk : k < length ls = omega arith in
          absurd (omega (arith, w.high Left (end_at (ends ls) Left k) (get_or (colours ls) k 0) (omega arith), count_some (stands Left (end_at (ends ls) Left k) (get_or (colours ls) k 0)) ls k nought lk (here Left k lk))))
          (cases_lt (get_or (colours ls) k 0) c);
      differ = λ s i j li lj ne same colour.
          let ki : i < length ls = omega arith in
          let kj : j < length ls = omega arith in
          ne (count_one (stands s (end_at (ends ls) s i) (get_or (colours ls) i 0)) ls i j nought (w.single s (end_at (ends ls) s i) (get_or (colours ls) i 0)) ki kj (here s i ki)
          (stands_from s (end_at (ends ls) s i) (get_or (colours ls) i 0) (get_or ls j nought) (sym (same ∙ end_line ls s j nought kj)) (sym (colour ∙ colour_line ls j nought kj))));
    }

-- while lines are left, there is room for one more that passes
pub room_left : (p : Line → Bool) (ls zs : List Line) (i m : ℕ) → take m zs ≡ filter p (take i ls) → m ≤ length zs → i < length ls → length zs ≡ length ls → m < length zs
room_left p ls zs i m e lm li same = omega (arith, ap length e, length-take-le m zs lm, length-take-le i ls (omega arith), kept_fewer p (take i ls))

-- the first i lines of ls are put together in ms, and the lines us and vs of the halves are left for the rest
pub record Gathering (ls xs ys ms : List Line) (i : ℕ) (us vs : List Line) : Type 0 where
  pub woven : take i ms ++ weave (drop i ls) us vs ≡ weave ls xs ys
  pub rest : drop i ms ≡ drop i ls
  pub long : length ms ≡ length ls
  pub lows : length us ≡ length (filter is_low (drop i ls))
  pub highs : length vs ≡ length (filter is_high (drop i ls))
