-- Ends and colours of a list of lines, by place.
use Rattle.std.proofs.Common.{◌≡◌, ℕ, zero, suc, ◌<◌, List, length, get_or, set, replicate, sym, refl, ap, ◌∙◌}
use Rattle.std.proofs.lemmas.List.{get_or-map, map-set, set-get_or, length-map}
use Rattle.lines.specs.declared.line.Line.{Line}
use Rattle.lines.specs.declared.line.Side.{Side}
use Rattle.lines.specs.declared.line.Side.TheVariants.{Left, Right}
use Rattle.lines.specs.Lines.{end_of, ends, colours, end_at}

-- the two ends of a line
abbrev pub both : Line → ℕ × ℕ
both l = (l.left, l.right)

pub end_line : (ls : List Line) (s : Side) (k : ℕ) (d : Line) → k < length ls → end_at (ends ls) s k ≡ end_of s (get_or ls k d)
end_line ls Left k d l = ap (λ (p : ℕ × ℕ). p.0) (get_or-map both ls k d (0, 0) l)
end_line ls Right k d l = ap (λ (p : ℕ × ℕ). p.1) (get_or-map both ls k d (0, 0) l)

pub colour_line : (ls : List Line) (k : ℕ) (d : Line) → k < length ls → get_or (colours ls) k 0 ≡ (get_or ls k d).colour
colour_line ls k d l = get_or-map (λ x. x.colour) ls k d 0 l

pub length_ends : (ls : List Line) → length (ends ls) ≡ length ls
length_ends ls = length-map ls both

pub length_colours : (ls : List Line) → length (colours ls) ≡ length ls
length_colours ls = length-map ls (λ x. x.colour)

pub same_length : (ls ms : List Line) → ends ms ≡ ends ls → length ms ≡ length ls
same_length ls ms e = sym (length_ends ms) ∙ ap length e ∙ length_ends ls

-- the line k with another colour
pub ends_set : (ls : List Line) (k : ℕ) (d x : Line) → k < length ls → both x ≡ both (get_or ls k d) → ends (set ls k x) ≡ ends ls
ends_set ls k d x l e =
    map-set both ls k x ∙ ap (set (ends ls) k) (e ∙ sym (get_or-map both ls k d (0, 0) l)) ∙ set-get_or (ends ls) k (0, 0)

-- a table that holds the same everywhere
pub all_same : {X : Type 0} (n k : ℕ) (x : X) → get_or (replicate n x) k x ≡ x
all_same zero k x = refl
all_same (suc n) zero x = refl
all_same (suc n) (suc k) x = all_same n k x
