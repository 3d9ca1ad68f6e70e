-- The rows are written one after the other.
use Rattle.std.proofs.Common.{◌≡◌, ℕ, ◌+◌, ◌<◌, ◌≤◌, List, [], ◌++◌, length, get_or, take, drop, None, Option, refl, sym, ap, ◌∙◌, arith, append_assoc}
use Rattle.std.specs.List.{flat_map}
use Rattle.std.proofs.lemmas.List.{flat_map_more, take_more, take_all, take_at, drop_at, drop-drop, append-nil, length-append}
use Rattle.std.proofs.lemmas.List.Folds.{length-flat_map-take}
use borrow.Rule.Slice.PartMut.{put_mid}

-- the texts of the first i of the places stand at the head of the bytes, to the byte at; from there on they are as they were
pub record Written (f : Option ℕ → List ℕ) (ps : List (Option ℕ)) (old : List ℕ) (i at : ℕ) (now : List ℕ) : Type 0 where
  pub end : at ≡ length (flat_map f (take i ps))
  pub text : now ≡ flat_map f (take i ps) ++ drop at old

module _ (f : Option ℕ → List ℕ) (ps : List (Option ℕ)) (old : List ℕ) where
  pub written_none : Written f ps old 0 0 old
  written_none = record { end = refl; text = refl }

  module _ (i at : ℕ) (now : List ℕ) (h : Written f ps old i at now) where
    pub written_all : length ps ≤ i → now ≡ flat_map f ps ++ drop (length (flat_map f ps)) old
    written_all l = h.text ∙ ap (λ (n : ℕ). flat_map f (take i ps) ++ drop n old) h.end ∙ ap (λ (qs : List (Option ℕ)). flat_map f qs ++ drop (length (flat_map f qs)) old) (take_all i ps l)

    module _ (l : i < length ps) where
      next : flat_map f (take (i + 1) ps) ≡ flat_map f (take i ps) ++ f (get_or ps i None)
      next = ap (flat_map f) (take_more ps i None l) ∙ sym (flat_map_more f [] (take i ps) (get_or ps i None))

      pub written_past : f (get_or ps i None) ≡ [] → Written f ps old (i + 1) at now
      written_past none =
          let same : flat_map f (take (i + 1) ps) ≡ flat_map f (take i ps) = next ∙ ap (λ (r : List ℕ). flat_map f (take i ps) ++ r) none ∙ append-nil (flat_map f (take i ps)) in
          record { end = h.end ∙ sym (ap length same); text = h.text ∙ sym (ap (λ (t : List ℕ). t ++ drop at old) same) }

      pub written_room : (n : ℕ) → length (f (get_or ps i None)) ≡ n → length (flat_map f ps) ≤ length old → at + n ≤ length old
      written_room n e room = omega (arith, length-flat_map-take f ps i None l, h.end, e, room)

      module _ (n k : ℕ) (r : List ℕ) (is : r ≡ f (get_or ps i None)) (e : length r ≡ n) (same : k ≡ n) where
        head : take at now ≡ flat_map f (take i ps)
        head = ap (take at) h.text ∙ take_at (flat_map f (take i ps)) (drop at old) at (sym h.end)

        tail : drop k (drop at now) ≡ drop (at + n) old
        tail = ap (λ (m : ℕ). drop m (drop at now)) same ∙ ap (λ (t : List ℕ). drop n (drop at t)) h.text ∙ ap (drop n) (drop_at (flat_map f (take i ps)) (drop at old) at (sym h.end)) ∙ drop-drop n at old

        pub written_more : Written f ps old (i + 1) (at + n) (put_mid at k now r)
        written_more = record {
          end = omega (arith, ap length next, length-append (flat_map f (take i ps)) (f (get_or ps i None)), h.end, ap length is, e);
          text = rw (head, tail, is) (sym (append_assoc (flat_map f (take i ps)) (f (get_or ps i None)) (drop (at + n) old)) ∙ ap (λ (t : List ℕ). t ++ drop (at + n) old) (sym next));
        }

pub ruleset writing = (written_none, written_all, written_past, written_room, written_more)
