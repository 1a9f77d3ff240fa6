-- The fields of a line, with one space between each two.
use Rattle.std.specs.Prelude.{◌≡◌, ℕ, ◌<◌, Bool, ◌==◌, List, length}
use Rattle.std.specs.List.{AllByRecursion, join_with_byte, slice_split}
use Rattle.bz_base.specs.Byte.{HasNo, space}

-- the text is these fields, with a space between each two and none within a field
pub record AreFields (text : List ℕ) (all : List (List ℕ)) : Type 0 where
  pub positive : 0 < length all
  pub whole : text ≡ join_with_byte space all
  pub no_space : AllByRecursion (HasNo space) all

abbrev pub is_space : ℕ → Bool
is_space b = b == space

-- the fields of a text, which is cut at each space
abbrev pub fields : List ℕ → List (List ℕ)
fields text = slice_split is_space text
