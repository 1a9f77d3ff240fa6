-- The text of folded stacks, as flame graphs are drawn from.
use Rattle.std.specs.Prelude.{ℕ, List, [], ◌∷◌, ◌++◌, map, flat_map, decimal, Vec}
use Rattle.std.specs.FinMap as finite
use Rattle.bz_base.specs.Byte.{line_feed, space}
use Rattle.bz_stacks.specs.Folding.{AnsweredStack, Sums, sums_of}

-- the line of a path and its sum
abbrev pub line_of : List ℕ × ℕ → List ℕ
line_of entry = entry.0 ++ space ∷ decimal entry.1 ++ line_feed ∷ []

-- the text of sums: a line for each path, in the order of the paths' bytes
abbrev pub text_of : Sums → List ℕ
text_of sums = flat_map line_of (finite.entries sums)

-- the text of stacks
abbrev pub folded_text : List AnsweredStack → List ℕ
folded_text all = text_of (sums_of all)

-- the lines of a map's entries
abbrev pub lines_of : {A : Type 0} → List (Vec ℕ A × ℕ) → List ℕ
lines_of entries = flat_map line_of (map (λ e. (e.0.items, e.1)) entries)
