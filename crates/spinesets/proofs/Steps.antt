-- Transfers that get the colours of their lines, and arrangers that refuse nothing.
use Rattle.std.proofs.Common.{◌≡◌, ℕ, ◌+◌, ◌<◌, ◌≤◌, Bool, true, List, [], ◌∷◌, map, length, take, get_or, set, Some, None, Err, sym, refl, ap, ◌∙◌, subst, arith}
use Rattle.std.proofs.Math.Seq.{map-set_same}
use Rattle.std.proofs.lemmas.List.{map-set, take_all, take_more, take_more_set, length-map}
use Rattle.failure.specs.declared.Failure.{Failure}
use Rattle.failure.specs.declared.Failure.TheVariants.{Refused, OutOfMemory}
use Rattle.ports.specs.declared.transfer.Transfer.{Transfer}
use Rattle.lines.specs.declared.line.Line.{Line}
use Rattle.lines.specs.declared.refusal.ArrangeRefusal.{ArrangeRefusal}
use Rattle.lines.specs.Arrangers.{Arranged}
use Rattle.lines.specs.Lines.{ends, colours, Proper}
use Rattle.lines.specs.Refusals.{refusal, refusal_due, lowest_above}
use Rattle.lines.proofs.Places.{colour_line, length_colours}
use Rattle.spinesets.specs.declared.assigned.Assigned.{Assigned}
use Rattle.spinesets.specs.Inner.{unassigned}
use Rattle.spinesets.specs.Sharing.{lines_of, transfers_of, spines_of, Shared, Shares}
use Rattle.spinesets.specs.Example.{permutation, NotRefused}

-- transfers that have no spine yet
transfers_unassigned : (ts : List Transfer) → transfers_of (map unassigned ts) ≡ ts
transfers_unassigned [] = refl
transfers_unassigned (t ∷ ts) = ap (λ (us : List Transfer). t ∷ us) (transfers_unassigned ts)

-- a transfer that gets a spine
pub transfers_more : (xs : List Assigned) (i : ℕ) (x d : Assigned) → x.transfer ≡ (get_or xs i d).transfer → transfers_of (set xs i x) ≡ transfers_of xs
transfers_more xs i x d e = map-set_same (λ a. a.transfer) xs i x d e

pub spines_more : (xs : List Assigned) (ls : List Line) (i : ℕ) (x : Assigned) (d : Line) → i < length xs → length xs ≡ length ls → x.spine ≡ (get_or ls i d).colour → take i (spines_of xs) ≡ take i (colours ls) → take (i + 1) (spines_of (set xs i x)) ≡ take (i + 1) (colours ls)
spines_more xs ls i x d l each e h =
    let long : i < length (spines_of xs) = omega (arith, length-map xs (λ a. a.spine)) in
    let long' : i < length (colours ls) = omega (arith, length_colours ls) in
    rw (map-set, take_more_set (spines_of xs) i x.spine long, take_more (colours ls) i 0 long', h, colour_line ls i d (omega arith), e) refl

-- where all transfers have theirs
pub spines_all : (n : ℕ) (xs : List Assigned) (ls : List Line) → take n (spines_of xs) ≡ take n (colours ls) → length xs ≤ n → length xs ≡ length ls → spines_of xs ≡ colours ls
spines_all n xs ls h l each =
    sym (take_all n (spines_of xs) (omega (arith, length-map xs (λ a. a.spine)))) ∙ h ∙ take_all n (colours ls) (omega (arith, length_colours ls))

pub ruleset assigning = (transfers_more, spines_more, spines_all)

-- lines that are not refused
pub none_due : (served : Bool) (n : ℕ) (ts : List Transfer) (before : List Line) → None ≡ refusal_due served n before → before ≡ lines_of n ts → refusal_due served n (lines_of n ts) ≡ None
none_due served n ts before due e = ap (refusal_due served n) (sym e) ∙ sym due

-- transfers with the colours of arranged lines
pub shared : (n : ℕ) (ts : List Transfer) (before after : List Line) (none some : List Assigned) → Arranged n before after → before ≡ lines_of n ts → none ≡ map unassigned ts → transfers_of some ≡ transfers_of none → spines_of some ≡ colours after → Shared n ts some
shared n ts before after none some a e start same spines =
    record {
      same = same ∙ ap transfers_of start ∙ transfers_unassigned ts;
      proper = rw spines (subst (λ (ps : List (ℕ × ℕ)). Proper n ps (colours after)) (a.same ∙ ap ends e) a.proper);
    }

-- no line of the permutation has more than four transfers
never_refused : refusal_due true 4 (lines_of 4 permutation) ≡ None
unfolding lowest_above
never_refused = refl

pub not_refused : (served : Bool) (e : Failure ArrangeRefusal) → served ≡ true → Shares (Err e) served 4 permutation → NotRefused e
not_refused served (Refused e) is h =
    let z : Some (refusal e) ≡ None = sym h ∙ ap (λ (b : Bool). refusal_due b 4 (lines_of 4 permutation)) is ∙ never_refused in
    absurd (let q : ◌≡◌ {A = ℕ} 0 1 = cc in omega arith)
not_refused served OutOfMemory is h = tt
