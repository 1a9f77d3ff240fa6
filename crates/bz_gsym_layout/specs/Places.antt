-- Where texts lie in the string table.
use Rattle.std.specs.Prelude.{ℕ, ◌+◌, List, [], ◌∷◌, length}
use Rattle.bz_gsym_layout.specs.Numbering.{stored}

-- where each text lies, where they stand one behind another from a place on
abbrev pub text_places : ℕ → List (List ℕ) → List ℕ
text_places at [] = []
text_places at (text ∷ texts) = at ∷ text_places (at + length (stored text)) texts
