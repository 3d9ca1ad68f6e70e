-- What is replayed of a list, one call after the other.
use Rattle.std.proofs.Common.{◌≡◌, ℕ, ◌+◌, ◌<◌, Bool, List, [], ◌∷◌, ◌++◌, length, get_or, take, map, refl, sym, ap, ◌∙◌, subst, arith}
use Rattle.std.specs.List.{zip}
use Rattle.std.proofs.lemmas.List.{take_more, map_push, length_push, append-nil, append_assoc}
use Rattle.cabinet.specs.Wiring.{Meaning}
use Rattle.audit.specs.declared.call.Call.{Call}
use Rattle.audit.specs.Calls.{asked}
use Rattle.audit.specs.History.{Asked, Told, History}
use Rattle.audit.specs.Law.{Lawful, Due}
use Rattle.audit.specs.States.{State, KindAndMeters, AgreesWith}
use Rattle.audit.specs.Replays.{IsReplayed}
use Rattle.audit.proofs.Pushing.{zip_push}

-- what is asked up to the next place of a list
pub asked_more : (room : ℕ) (calls : List Call) (i : ℕ) (d c : Call) → i < length calls → c ≡ get_or calls i d → map (asked room) (take (i + 1) calls) ≡ map (asked room) (take i calls) ++ (asked room c ∷ [])
asked_more room calls i d c l at = ap (map (asked room)) (take_more calls i d l ∙ ap (λ (x : Call). take i calls ++ (x ∷ [])) (sym at)) ∙ map_push (asked room) (take i calls) c

module _ {K : Type 0} (kind : ℕ → ℕ → Meaning) (served : ℕ → Bool) (first : KindAndMeters K) (h : History) where
  -- no call
  pub replayed_none : (s : State) (g : KindAndMeters K) → AgreesWith kind first h s g → IsReplayed kind served first h [] [] s g
  replayed_none s g agrees = record { each = refl; agrees = rw (append-nil h) agrees; lawful = λ law. rw (append-nil h) law; due = λ due. rw (append-nil h) due }

  -- one call more
  module _ (cs : List Asked) (us : List Told) (c : Asked) (a : Told) (s t : State) (g after : KindAndMeters K) where
    joined : length us ≡ length cs → h ++ zip (cs ++ (c ∷ [])) (us ++ (a ∷ [])) ≡ (h ++ zip cs us) ++ ((c, a) ∷ [])
    joined e = ap (λ xs. h ++ xs) (zip_push cs us c a e) ∙ sym (append_assoc h (zip cs us) ((c, a) ∷ []))

    replayed_push : IsReplayed kind served first h cs us s g →
        ((x : History) → AgreesWith kind first x s g → AgreesWith kind first (x ++ ((c, a) ∷ [])) t after) →
        ((x : History) → AgreesWith kind first x s g → Lawful kind served x → Lawful kind served (x ++ ((c, a) ∷ []))) →
        ((x : History) → AgreesWith kind first x s g → Due served x → Due served (x ++ ((c, a) ∷ []))) →
        IsReplayed kind served first h (cs ++ (c ∷ [])) (us ++ (a ∷ [])) t after
    replayed_push is agrees lawful due =
        let e = joined is.each in record {
          each = omega (arith, is.each, length_push us a, length_push cs c);
          agrees = rw e (agrees _ is.agrees);
          lawful = λ law. rw e (lawful _ is.agrees (is.lawful law));
          due = λ d. rw e (due _ is.agrees (is.due d));
        }

  -- the call at the next place of a list, asked with a buffer of as many bytes
  module _ (calls : List Call) (us : List Told) (i : ℕ) (d c : Call) (a : Told) (s t : State) (g after : KindAndMeters K) (l : i < length calls) (at : c ≡ get_or calls i d) where
    more_at : (room : ℕ) → IsReplayed kind served first h (map (asked room) (take i calls)) us s g →
        ((x : History) → AgreesWith kind first x s g → AgreesWith kind first (x ++ ((asked room c, a) ∷ [])) t after) →
        ((x : History) → AgreesWith kind first x s g → Lawful kind served x → Lawful kind served (x ++ ((asked room c, a) ∷ []))) →
        ((x : History) → AgreesWith kind first x s g → Due served x → Due served (x ++ ((asked room c, a) ∷ []))) →
        IsReplayed kind served first h (map (asked room) (take (i + 1) calls)) (us ++ (a ∷ [])) t after
    more_at room is agrees lawful due =
        subst (λ cs. IsReplayed kind served first h cs (us ++ (a ∷ [])) t after) (sym (asked_more room calls i d c l at))
        (replayed_push (map (asked room) (take i calls)) us (asked room c) a s t g after is agrees lawful due)

    pub replayed_at : (room n : ℕ) → n ≡ room → IsReplayed kind served first h (map (asked room) (take i calls)) us s g →
        ((x : History) → AgreesWith kind first x s g → AgreesWith kind first (x ++ ((asked n c, a) ∷ [])) t after) →
        ((x : History) → AgreesWith kind first x s g → Lawful kind served x → Lawful kind served (x ++ ((asked n c, a) ∷ []))) →
        ((x : History) → AgreesWith kind first x s g → Due served x → Due served (x ++ ((asked n c, a) ∷ []))) →
        IsReplayed kind served first h (map (asked room) (take (i + 1) calls)) (us ++ (a ∷ [])) t after
    replayed_at room n e is agrees lawful due =
        subst (λ r. IsReplayed kind served first h (map (asked r) (take (i + 1) calls)) (us ++ (a ∷ [])) t after) e
        (more_at n (subst (λ r. IsReplayed kind served first h (map (asked r) (take i calls)) us s g) (sym e) is) agrees lawful due)

    -- where nothing is asked after it
    pub cut_at : (room n : ℕ) → n ≡ room → IsReplayed kind served first h (map (asked room) (take i calls)) us s g →
        ((x : History) → AgreesWith kind first x s g → AgreesWith kind first (x ++ ((asked n c, a) ∷ [])) t after) →
        ((x : History) → AgreesWith kind first x s g → Lawful kind served x → Lawful kind served (x ++ ((asked n c, a) ∷ []))) →
        ((x : History) → AgreesWith kind first x s g → Due served x → Due served (x ++ ((asked n c, a) ∷ []))) →
        (k : ℕ) × (answers : List Told) × IsReplayed kind served first h (map (asked room) (take k calls)) answers t after
    cut_at room n e is agrees lawful due = (i + 1, us ++ (a ∷ []), replayed_at room n e is agrees lawful due)
