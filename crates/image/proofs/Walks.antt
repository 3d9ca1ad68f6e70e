-- The way of a reader from cell to cell of an image, and that the reading is just what it passes.
use Rattle.std.proofs.Common.{◌≡◌, ◌≢◌, ℕ, zero, suc, ◌<◌, ◌≤◌, Bool, true, false, List, [], ◌∷◌, ◌++◌, length, get_or, set, Some, None, Ok, Err, Option, Result, refl, sym, ap, subst, ◌∙◌, ⊎_elim, inl, inr, arith, get_or-set_same, get_or-set_other, length-set}
use Rattle.std.proofs.lemmas.Bool.{both_ways, false_from_ne_true, cases_Bool, cases_eq, cases_lt}
use Rattle.std.proofs.lemmas.Bool.Decides.{nat_tests}
use Rattle.image.specs.declared.refusal.Layer.TheVariants.{Image}
use Rattle.image.specs.Cells.{cells_of, next_index}
use Rattle.image.specs.Faults.{Fault, fault}
use Rattle.image.specs.Readings.{Reading, Reader, record_step, unvisited_count, reading, stopped, and_record}
use Rattle.image.specs.Records.{NumberedRecord}
use Rattle.image.specs.Meaning.{JobImage, cell_count, cell, IsUnsound, IsRecordAt, IsNotIn, AreApart, Leads}
use Rattle.image.proofs.Readings.{one_less, onward, moves, read_once}
use Rattle.image.proofs.Sounds.{due_record, due_unsound, each_cell}

-- where a reader of an image stands, with a mark for each of 2,048 cells
pub record Spot : Type 0 where
  pub visited : List Bool
  pub holder : ℕ
  pub index : ℕ
  pub marks : length visited ≡ 2048

module _ (s : JobImage) where
  -- the reader there
  abbrev pub reader_at : Spot → Reader
  reader_at p = record { job = s.job; site = s.site; state = record { cells = cells_of s.bytes; visited = p.visited; holder = p.holder; index = p.index } }

  -- at the next cell
  abbrev pub next : Spot → Spot
  next p = record { visited = set p.visited p.index true; holder = p.index; index = next_index (cell s p.index); marks = length-set p.visited p.index true ∙ p.marks }

  -- the cell that the index names was not visited
  abbrev IsUnvisited : Spot → Type 0
  IsUnvisited p = get_or p.visited p.index false ≡ false

  -- what a step comes to
  pub data Steps (p : Spot) : Result (Option NumberedRecord) Fault → Type 0 where
    at_end : p.index ≡ 0 → Steps p (Ok None)
    at_past : 0 < p.index → cell_count s ≤ p.index → Steps p (Err (fault 18 p.holder Image))
    at_visited : 0 < p.index → p.index < cell_count s → get_or p.visited p.index false ≡ true → Steps p (Err (fault 19 p.holder Image))
    at_record : (x : NumberedRecord) → IsRecordAt s p.index x → IsUnvisited p → Steps p (Ok (Some x))
    at_unsound : (f : Fault) → 0 < p.index → p.index < cell_count s → IsUnvisited p → IsUnsound s.job s.site p.index (cell s p.index) f → Steps p (Err f)

  -- each step comes to something, and to just that
  each_step : (p : Spot) → (o : Result (Option NumberedRecord) Fault) × Steps p o
  each_step p =
      elim (cases_eq p.index 0) [
        | inl z ↦ (_, at_end z)
        | inr some ↦
            elim (cases_lt p.index (cell_count s)) [
              | inr far ↦ (_, at_past (omega arith) far)
              | inl low ↦
                  elim (cases_Bool (get_or p.visited p.index false)) [
                    | inl seen ↦ (_, at_visited (omega arith) low seen)
                    | inr free ↦
                        elim (each_cell s.job s.site p.index (cell s p.index)) [
                          | inl r ↦ (_, at_record (record { number = p.index; parts = r.0 }) (record { number = refl; record_cell = omega arith; within = low; sound = r.1 }) free)
                          | inr u ↦ (_, at_unsound u.0 (omega arith) low free u.1)
                        ]
                  ]
            ]
      ]

  step_so : (p : Spot) (o : Result (Option NumberedRecord) Fault) → Steps p o → record_step (reader_at p) ≡ o
  unfolding record_step
  step_so p o (at_end z) = grind (arith, nat_tests)
  step_so p o (at_past some far) = grind (arith, nat_tests)
  step_so p o (at_visited some low seen) = grind (arith, nat_tests)
  step_so p o (at_record x is free) = grind (arith, nat_tests, due_record s.job s.site p.index (cell s p.index) x.parts is.sound)
  step_so p o (at_unsound f some low free is) = grind (arith, nat_tests, due_unsound s.job s.site p.index (cell s p.index) f is)

  -- from one place over the records to another
  pub data Walks : Spot → List NumberedRecord → Spot → Type 0 where
    stays : {p : Spot} → Walks p [] p
    passes : {p : Spot} {x : NumberedRecord} {xs : List NumberedRecord} {q : Spot} → IsRecordAt s p.index x → IsUnvisited p → Walks (next p) xs q → Walks p (x ∷ xs) q

  -- the end of a reading
  abbrev pub ended : Option Fault → Result (Option NumberedRecord) Fault
  ended None = Ok None
  ended (Some f) = Err f

  pub walk_leads : {p : Spot} {xs : List NumberedRecord} {q : Spot} → Walks p xs q → Leads s p.holder p.index xs q.holder q.index
  walk_leads stays = (refl, refl)
  walk_leads (passes is free k) = (is, walk_leads k)

  -- a cell that was visited before is not passed
  walk_clear : {p : Spot} {xs : List NumberedRecord} {q : Spot} (c : ℕ) → Walks p xs q → get_or p.visited c false ≡ true → IsNotIn c xs
  walk_clear c stays t = tt
  walk_clear {p = p} c (passes is free k) t =
      let ne : c ≢ p.index = λ e. both_ways (get_or p.visited p.index false) free (rw e at t) in
      (λ e. ne (e ∙ is.number), walk_clear c k (get_or-set_other p.visited p.index c true false ne ∙ t))

  -- a cell that is not passed is as it was
  pub walk_other : {p : Spot} {xs : List NumberedRecord} {q : Spot} (c : ℕ) → Walks p xs q → IsNotIn c xs → get_or q.visited c false ≡ get_or p.visited c false
  walk_other c stays n = refl
  walk_other {p = p} c (passes is free k) n = walk_other c k n.1 ∙ get_or-set_other p.visited p.index c true false (λ e. n.0 (e ∙ sym is.number))

  module _ (few : cell_count s ≤ 2048) where
    -- a cell that is passed is visited
    marked : (p : Spot) {x : NumberedRecord} → IsRecordAt s p.index x → get_or (next p).visited x.number false ≡ true
    marked p is = let low = is.within in let m = p.marks in rw is.number (get_or-set_same p.visited p.index true false (omega arith))

    pub walk_apart : {p : Spot} {xs : List NumberedRecord} {q : Spot} → Walks p xs q → AreApart xs
    walk_apart stays = tt
    walk_apart {p = p} (passes is free k) = (walk_clear _ k (marked p is), walk_apart k)

    -- a cell that is not visited at the end is not passed
    pub walk_missed : {p : Spot} {xs : List NumberedRecord} {q : Spot} (c : ℕ) → Walks p xs q → get_or q.visited c false ≡ false → IsNotIn c xs
    walk_missed c stays t = tt
    walk_missed {p = p} {q = q} c (passes is free k) t =
        let on = walk_missed c k t in
        (λ e. both_ways (get_or q.visited c false) t (walk_other c k on ∙ rw e (marked p is)), on)

    -- where records lead, a walk over them leads
    pub leads_walk : (p : Spot) (xs : List NumberedRecord) (g e : ℕ) → Leads s p.holder p.index xs g e → AreApart xs → ((c : ℕ) → get_or p.visited c false ≡ true → IsNotIn c xs)
        → (q : Spot) × Walks p xs q × (q.holder ≡ g) × (q.index ≡ e)
    leads_walk p [] g e l a n = (p, stays, l.0, l.1)
    leads_walk p (x ∷ xs) g e l a n =
        let free = false_from_ne_true (get_or p.visited p.index false) (λ t. (n p.index t).0 (sym l.0.number)) in
        let on = leads_walk (next p) xs g e l.1 a.1
        (λ c t.
        ⊎_elim
        (λ (e : c ≡ p.index). subst (λ j. IsNotIn j xs) (l.0.number ∙ sym e) a.0)
        (λ (ne : c ≢ p.index). (n c (sym (get_or-set_other p.visited p.index c true false ne) ∙ t)).1)
        (cases_eq c p.index)) in
        (on.0, passes l.0 free on.1, on.2, on.3)

    -- the reading from where a step comes to
    abbrev onto : Spot → Result (Option NumberedRecord) Fault → Reading
    onto p (Ok (Some x)) = and_record x (reading (reader_at (next p)))
    onto p (Ok None) = stopped None
    onto p (Err f) = stopped (Some f)

    -- what is read is what a step comes to, and what is read from there on
    read_on : (p : Spot) (o : Result (Option NumberedRecord) Fault) → Steps p o → reading (reader_at p) ≡ onto p o
    read_on p o t = read_once (reader_at p) p.marks few ∙ ap (onward (reader_at p)) (step_so p o t) ∙ onward_is o (step_so p o t)
      where
        onward_is : (o : Result (Option NumberedRecord) Fault) → record_step (reader_at p) ≡ o → onward (reader_at p) o ≡ onto p o
        onward_is (Ok (Some x)) e = ap (λ a. and_record x (reading a)) (moves (reader_at p) x e)
        onward_is (Ok None) e = refl
        onward_is (Err f) e = refl

    -- a walk to where a step ends the reading is the reading
    pub walk_read : {p : Spot} {xs : List NumberedRecord} {q : Spot} (o : Option Fault) → Walks p xs q → Steps q (ended o) → reading (reader_at p) ≡ record { records = xs; stop = o }
    walk_read {p = p} None stays t = read_on p _ t
    walk_read {p = p} (Some f) stays t = read_on p _ t
    walk_read {p = p} o (passes {x = x} is free k) t = read_on p (Ok (Some x)) (at_record x is free) ∙ ap (and_record x) (walk_read o k t)

    -- a reading begins with what a walk passes
    pub walk_begins : {p : Spot} {xs : List NumberedRecord} {q : Spot} → Walks p xs q → (reading (reader_at p)).records ≡ xs ++ (reading (reader_at q)).records
    walk_begins stays = refl
    walk_begins {p = p} (passes {x = x} is free k) = ap (λ r. r.records) (read_on p (Ok (Some x)) (at_record x is free)) ∙ ap (λ ys. x ∷ ys) (walk_begins k)

    -- and a reading is a walk to there
    abbrev pub IsWalk : Spot → Reading → Type 0
    IsWalk p r = (q : Spot) × Walks p r.records q × Steps q (ended r.stop)

    walk_of : (p : Spot) (o : Result (Option NumberedRecord) Fault) → Steps p o → (unvisited_count (next p).visited < unvisited_count p.visited → IsWalk (next p) (reading (reader_at (next p)))) → IsWalk p (onto p o)
    walk_of p (Ok None) t on = (p, stays, t)
    walk_of p (Err f) t on = (p, stays, t)
    walk_of p (Ok (Some x)) (at_record y is free) on =
        let low = is.within in
        let m = p.marks in
        let less = one_less p.visited p.index (omega arith) free in
        let k = on (omega arith) in
        (k.0, passes is free k.1, k.2)

    pub read_walk : (n : ℕ) (p : Spot) → unvisited_count p.visited < n → IsWalk p (reading (reader_at p))
    read_walk zero p l = absurd (omega arith)
    read_walk (suc n) p l = subst (IsWalk p) (sym (read_on p _ (each_step p).1)) (walk_of p _ (each_step p).1 (λ less. read_walk n (next p) (omega arith)))
