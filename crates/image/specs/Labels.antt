-- The label of a transfer: some bytes of one of the two texts, one after the other.
use Rattle.std.specs.Prelude.{ℕ, ◌+◌, Bool, ◌&&◌, cond, List, length, Some, None, Option, ◌==◌, nat_le, slice_range}
use Rattle.std.specs.Borrow.{Bor}
use Rattle.image.specs.Cells.{byte, word}

-- the text that a source names: 0 the job text, 1 the site sheet; is_labelled asks that it is one of these
abbrev pub text_named : List ℕ → List ℕ → ℕ → List ℕ
text_named job site source = cond (source == 0) job site

-- whether the source of a cell names a text, and place plus length do not pass the end of it
abbrev pub is_labelled : List ℕ → List ℕ → List ℕ → Bool
is_labelled job site c = nat_le (byte c 11) 1 && nat_le (word c 8 + byte c 10) (length (text_named job site (byte c 11)))

-- the part of the text named that begins at the place and is as long as the length; none where there is no such part
abbrev pub label_of : List ℕ → List ℕ → List ℕ → Option (List ℕ)
label_of job site c =
    cond (is_labelled job site c) (Some (slice_range (text_named job site (byte c 11)) (word c 8) (word c 8 + byte c 10))) None

-- a part of a caller's bytes, where there is one
abbrev pub told_part : Option (Bor (List ℕ)) → Option (List ℕ)
told_part None = None
told_part (Some r) = Some r.now
