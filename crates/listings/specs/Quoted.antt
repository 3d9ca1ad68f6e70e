-- Bytes as text.
use Rattle.std.specs.Prelude.{ℕ, Bool, ◌&&◌, not, cond, List, [], ◌∷◌, ◌++◌, ◌==◌, nat_le, nat_lt}
use Rattle.std.specs.List.{flat_map}
use Rattle.crossbar.specs.Text.{hex}

-- a character of ASCII that prints, but neither a quotation mark nor a backslash
abbrev pub is_plain : ℕ → Bool
is_plain b = nat_le 32 b && (nat_lt b 127 && (not (b == 34) && not (b == 92)))

-- such a byte as it is, any other as a backslash and two hexadecimal digits
abbrev pub escaped : ℕ → List ℕ
escaped b = cond (is_plain b) (b ∷ []) (92 ∷ hex b)

-- bytes between quotation marks
abbrev pub quoted : List ℕ → List ℕ
quoted bs = 34 ∷ (flat_map escaped bs ++ (34 ∷ []))
