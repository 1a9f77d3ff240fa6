-- The lines of a text: it is cut at its line feeds. Each line has its end, or the last one may lack it.
use Rattle.std.specs.Prelude.{◌≡◌, ℕ, ◌==◌, List, [], ◌∷◌, ◌++◌, flat_map, Option, Some, None, if◌then◌else◌}
use Rattle.std.specs.List.{AllByRecursion, after_first}
use Rattle.bz_bytes.specs.Byte.{line_feed, HasNo}

-- a line with its end
abbrev pub ended : List ℕ → List ℕ
ended line = line ++ line_feed ∷ []

-- the text is these lines side by side, each with its end
pub record AreEnded (text : List ℕ) (lines : List (List ℕ)) : Type 0 where
  pub whole : text ≡ flat_map ended lines
  pub no_line_feed : AllByRecursion (HasNo line_feed) lines

-- the line that lacks its end: what stands after all ends, if it isn't empty
abbrev pub unended : List ℕ → List (List ℕ)
unended [] = []
unended (b ∷ rest) = (b ∷ rest) ∷ []

-- the text is these lines side by side, each with its end, but that the last one may lack it
pub record AreLines (text : List ℕ) (lines : List (List ℕ)) : Type 0 where
  pub front : List (List ℕ)
  pub rest : List ℕ
  pub whole : text ≡ flat_map ended front ++ rest
  pub no_line_feed : AllByRecursion (HasNo line_feed) front
  pub rest_has_none : HasNo line_feed rest
  pub lines_are : lines ≡ front ++ unended rest

-- a byte that begins the first of the lines, each of which has its end
abbrev pub begins_ended : ℕ → List (List ℕ) → Option (List (List ℕ))
begins_ended b [] = None
begins_ended b (line ∷ lines) = Some ((b ∷ line) ∷ lines)

-- a byte in front of such lines: it ends an empty line, or begins the first one
abbrev pub before_ended : ℕ → Option (List (List ℕ)) → Option (List (List ℕ))
before_ended b None = None
before_ended b (Some lines) = if b == line_feed then Some ([] ∷ lines) else begins_ended b lines

-- the lines of the text, if the last one has its end
abbrev pub ended_lines : List ℕ → Option (List (List ℕ))
ended_lines [] = Some []
ended_lines (b ∷ text) = before_ended b (ended_lines text)

-- a byte that begins the first of the lines, or is a line that lacks its end
abbrev pub begins_line : ℕ → List (List ℕ) → List (List ℕ)
begins_line b [] = (b ∷ []) ∷ []
begins_line b (line ∷ lines) = (b ∷ line) ∷ lines

-- the lines of the text, whose last one may lack its end
abbrev pub all_lines : List ℕ → List (List ℕ)
all_lines [] = []
all_lines (b ∷ text) = if b == line_feed then [] ∷ all_lines text else begins_line b (all_lines text)

-- what stands behind the first line feed; nothing where there is none
abbrev pub after_first_line_feed : List ℕ → List ℕ
after_first_line_feed text = after_first (λ b. b == line_feed) text
