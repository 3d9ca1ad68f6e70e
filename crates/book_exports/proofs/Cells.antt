-- Bytes in cells of one width.
use Rattle.std.proofs.Common.{◌≡◌, ℕ, zero, suc, ◌+◌, ◌*◌, ◌/◌, ◌<◌, List, [], map, length, get_or, take, drop, sym, refl, ap, ◌∙◌, arith}
use Rattle.std.specs.List.{range_with_len}
use Rattle.std.specs.Simd.{first_chunks}
use Rattle.std.proofs.lemmas.List.{get_or-take, get_or-drop, get_or-map, length-map, drop-drop, same_lists}
use Rattle.std.proofs.lemmas.List.FromFn.{length-map-range_with_len, get_or-map-range_with_len}

module _ (w : ℕ) where
  chunk_at : (k : ℕ) (bs : List ℕ) (i : ℕ) → i < k → get_or (first_chunks w k bs) i [] ≡ take w (drop (i * w) bs)
  chunk_at zero bs i l = absurd (omega arith)
  chunk_at (suc k) bs zero l = ap (λ (n : ℕ). take w (drop n bs)) (let z : ◌≡◌ {A = ℕ} 0 (0 * w) = omega arith in z)
  chunk_at (suc k) bs (suc i) l = chunk_at k (drop w bs) i (omega arith) ∙ ap (take w) (drop-drop (i * w) w bs) ∙ ap (λ (n : ℕ). take w (drop n bs)) (omega arith)

  length_chunks : (k : ℕ) (bs : List ℕ) → length (first_chunks w k bs) ≡ k
  length_chunks zero bs = refl
  length_chunks (suc k) bs = ap (λ (n : ℕ). suc n) (length_chunks k (drop w bs))

  pub byte_at : (bs : List ℕ) (i j : ℕ) → j < w → get_or (take w (drop (i * w) bs)) j 0 ≡ get_or bs (w * i + j) 0
  byte_at bs i j l = get_or-take w (drop (i * w) bs) j 0 l ∙ get_or-drop (i * w) bs j 0 ∙ ap (λ (k : ℕ). get_or bs k 0) (omega arith)

  pub first_byte : (bs : List ℕ) (i : ℕ) → 0 < w → get_or (take w (drop (i * w) bs)) 0 0 ≡ get_or bs (w * i) 0
  first_byte bs i l = byte_at bs i 0 l ∙ ap (λ (k : ℕ). get_or bs k 0) (omega arith)

  -- what is read of each cell is what is read at its place
  pub by_cells : {X : Type 0} (f : List ℕ → X) (g : List ℕ → ℕ → X) → ((bs : List ℕ) (i : ℕ) → f (take w (drop (i * w) bs)) ≡ g bs i)
      → (bs : List ℕ) → map f (first_chunks w (length bs / w) bs) ≡ map (g bs) (range_with_len 0 (length bs / w))
  by_cells f g h bs =
      let n = length bs / w in
      let each : length (map f (first_chunks w n bs)) ≡ n = length-map (first_chunks w n bs) f ∙ length_chunks n bs in
      same_lists (map f (first_chunks w n bs)) (map (g bs) (range_with_len 0 n)) (each ∙ sym (length-map-range_with_len (g bs) 0 n))
      (λ i d l.
      let low : i < n = omega arith in
      get_or-map f (first_chunks w n bs) i [] d (omega (arith, length_chunks n bs)) ∙ ap f (chunk_at n bs i low) ∙ h bs i ∙ sym (get_or-map-range_with_len (g bs) 0 n i i d low (omega arith)))
