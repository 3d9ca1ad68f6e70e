-- Colours written into the bytes of lines, and the lines that then stand there.
use Rattle.std.proofs.Common.{◌≡◌, ℕ, zero, suc, ◌+◌, ◌*◌, ◌/◌, ◌%◌, ◌<◌, ◌≢◌, List, [], map, length, get_or, take, drop, set, sym, refl, ap, ◌∙◌, ⊎_elim, arith}
use Rattle.std.proofs.lemmas.List.{get_or-set_same, get_or-set_other, get_or-take, get_or-drop, get_or-map, length-map, drop-drop, same_lists, ext_get_or}
use Rattle.std.specs.Simd.{first_chunks}
use Rattle.std.proofs.lemmas.Bool.{cases_eq}
use Rattle.std.proofs.lemmas.List.FromFn.{length-map-range_with_len, get_or-map-range_with_len}
use Rattle.lines.specs.declared.line.Line.{Line}
use Rattle.lines.specs.declared.line.Side.TheVariants.{Left, Right}
use Rattle.lines.specs.Lines.{ends, colours, end_at}
use Rattle.lines.proofs.Places.{end_line, colour_line, same_length}
use Rattle.exports.specs.Bytes.{line_at, lines_of, Put, Kept, Recoloured}

pub put_more : (bs cs : List ℕ) (i x : ℕ) → 5 * i + 4 < length bs → x ≡ get_or cs i 0 → Put i bs cs → Put (i + 1) (set bs (5 * i + 4) x) cs
put_more bs cs i x l e h j m =
    ⊎_elim
    (λ (q : j ≡ i). rw q (get_or-set_same bs (5 * i + 4) x 0 l ∙ e))
    (λ (q : j ≢ i). get_or-set_other bs (5 * i + 4) (5 * j + 4) x 0 (λ z. q (omega arith)) ∙ h j (omega arith))
    (cases_eq j i)

pub kept_more : (bs ds : List ℕ) (i x : ℕ) → Kept bs ds → Kept bs (set ds (5 * i + 4) x)
kept_more bs ds i x h k far = get_or-set_other ds (5 * i + 4) k x 0 (λ z. far (omega arith)) ∙ h k far

pub length_lines : (bs : List ℕ) → length (lines_of bs) ≡ length bs / 5
length_lines bs = length-map-range_with_len (line_at bs) 0 (length bs / 5)

pub getD_lines : (bs : List ℕ) (i : ℕ) (d : Line) → i < length bs / 5 → get_or (lines_of bs) i d ≡ line_at bs i
getD_lines bs i d l = get_or-map-range_with_len (line_at bs) 0 (length bs / 5) i i d l (omega arith)

-- five bytes are those of a line
chunk_at : (k : ℕ) (bs : List ℕ) (i : ℕ) → i < k → get_or (first_chunks 5 k bs) i [] ≡ take 5 (drop (i * 5) bs)
chunk_at zero bs i l = absurd (omega arith)
chunk_at (suc k) bs zero l = refl
chunk_at (suc k) bs (suc i) l = chunk_at k (drop 5 bs) i (omega arith) ∙ ap (take 5) (drop-drop (i * 5) 5 bs) ∙ ap (λ (n : ℕ). take 5 (drop n bs)) (omega arith)

byte_at : (bs : List ℕ) (i j : ℕ) → j < 5 → get_or (take 5 (drop (i * 5) bs)) j 0 ≡ get_or bs (5 * i + j) 0
byte_at bs i j l = get_or-take 5 (drop (i * 5) bs) j 0 l ∙ get_or-drop (i * 5) bs j 0 ∙ ap (λ (k : ℕ). get_or bs k 0) (omega arith)

cell_line : (bs : List ℕ) (i : ℕ) → line_at (take 5 (drop (i * 5) bs)) 0 ≡ line_at bs i
cell_line bs i = rw (first_byte, byte_at bs i 1 (omega arith), byte_at bs i 2 (omega arith), byte_at bs i 3 (omega arith), byte_at bs i 4 (omega arith)) refl
  where
    first_byte : get_or (take 5 (drop (i * 5) bs)) 0 0 ≡ get_or bs (5 * i) 0
    first_byte = byte_at bs i 0 (omega arith) ∙ ap (λ (k : ℕ). get_or bs k 0) (omega arith)

length_chunks : (k : ℕ) (bs : List ℕ) → length (first_chunks 5 k bs) ≡ k
length_chunks zero bs = refl
length_chunks (suc k) bs = ap (λ (n : ℕ). suc n) (length_chunks k (drop 5 bs))

pub lines_by_five : (bs : List ℕ) → map (λ cell. line_at cell 0) (first_chunks 5 (length bs / 5) bs) ≡ lines_of bs
lines_by_five bs =
    let n = length bs / 5 in
    let five : length (map (λ cell. line_at cell 0) (first_chunks 5 n bs)) ≡ n = length-map (first_chunks 5 n bs) (λ cell. line_at cell 0) ∙ length_chunks n bs in
    same_lists (map (λ cell. line_at cell 0) (first_chunks 5 n bs)) (lines_of bs) (five ∙ sym (length_lines bs))
    (λ i d l.
    let low : i < n = omega arith in
    get_or-map (λ cell. line_at cell 0) (first_chunks 5 n bs) i [] d (omega (arith, length_chunks n bs)) ∙ ap (λ (cell : List ℕ). line_at cell 0) (chunk_at n bs i low) ∙ cell_line bs i ∙ sym (getD_lines bs i d low))

-- bytes with the ends of bs and the colours of ls hold ls, if ls has the ends of bs
module _ (bs ds : List ℕ) (ls : List Line) (size : length ds ≡ length bs) (same : ends ls ≡ ends (lines_of bs)) (kept : Kept bs ds) where
  pub count : length ls ≡ length bs / 5
  count = same_length (lines_of bs) ls same ∙ length_lines bs

  left_at : (i : ℕ) (d : Line) → i < length ls → (get_or ls i d).left ≡ (line_at bs i).left
  left_at i d l =
      sym (end_line ls Left i d l)
      ∙ ap (λ (ps : List (ℕ × ℕ)). end_at ps Left i) same
      ∙ end_line (lines_of bs) Left i d (omega (arith, length_lines bs, count))
      ∙ ap (λ (x : Line). x.left) (getD_lines bs i d (omega (arith, count)))

  right_at : (i : ℕ) (d : Line) → i < length ls → (get_or ls i d).right ≡ (line_at bs i).right
  right_at i d l =
      sym (end_line ls Right i d l)
      ∙ ap (λ (ps : List (ℕ × ℕ)). end_at ps Right i) same
      ∙ end_line (lines_of bs) Right i d (omega (arith, length_lines bs, count))
      ∙ ap (λ (x : Line). x.right) (getD_lines bs i d (omega (arith, count)))

  line_is : Put (length ls) ds (colours ls) → (i : ℕ) (d : Line) → i < length ls → line_at ds i ≡ get_or ls i d
  line_is put i d l =
      let a = left_at i d l in
      let b = right_at i d l in
      let e = put i l ∙ colour_line ls i d l in
      rw (kept (5 * i) (λ z. omega arith), kept (5 * i + 1) (λ z. omega arith), kept (5 * i + 2) (λ z. omega arith), kept (5 * i + 3) (λ z. omega arith), e, ← a, ← b) refl

  pub recoloured : Put (length ls) ds (colours ls) → Recoloured ls bs ds
  recoloured put =
      record {
        lines =
            same_lists (lines_of ds) ls (omega (arith, length_lines ds, count, ap (λ (n : ℕ). n / 5) size))
            (λ i d l. let m : i < length ls = omega (arith, length_lines ds, count, ap (λ (n : ℕ). n / 5) size) in
            getD_lines ds i d (omega (arith, length_lines ds)) ∙ line_is put i d m);
        ends = kept;
      }

-- bytes that hold the lines that they held are the same
pub same_bytes : (bs ds : List ℕ) → length ds ≡ length bs → Recoloured (lines_of bs) bs ds → ds ≡ bs
same_bytes bs ds size r =
    ext_get_or 0 ds bs size
    (λ k l.
    ⊎_elim
    (λ (q : k % 5 ≡ 4).
    let i = k / 5 in
    let at : 5 * i + 4 ≡ k = omega arith in
    let low : i < length bs / 5 = omega arith in
    let low' : i < length ds / 5 = omega arith in
    let x = line_at bs i in
    let e : line_at ds i ≡ x = sym (getD_lines ds i x low') ∙ ap (λ (ls : List Line). get_or ls i x) r.lines ∙ getD_lines bs i x low in
    rw (← at) (ap (λ (y : Line). y.colour) e))
    (λ (q : k % 5 ≢ 4). r.ends k q)
    (cases_eq (k % 5) 4))
