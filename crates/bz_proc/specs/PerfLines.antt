-- Perf maps as lines side by side.
use Rattle.std.specs.Prelude.{◌≡◌, ℕ, ◌==◌, ◌||◌, not, Bool, true, false, List, [], ◌∷◌, ◌++◌, take, Option, Some, option_map, option_and_then}
use Rattle.std.specs.List.{filter, list_any, prefix_len, slice_split}
use Rattle.bz_base.specs.Byte.{line_feed, carriage_return}
use Rattle.bz_proc.specs.PerfLine.{IsPerfLine, PerfFunction, perf_function_in}

-- a perf map is cut at these bytes
abbrev pub ends_line : ℕ → Bool
ends_line b = b == line_feed || b == carriage_return

-- the text holds none of them
abbrev pub HasNoEnd : List ℕ → Type 0
HasNoEnd text = list_any ends_line text ≡ false

-- the bytes are these parts side by side, which hold no such byte, with one after each but the last
abbrev pub AreParts : List ℕ → List (List ℕ) → Type 0
AreParts bytes [] = ⊥
AreParts bytes (part ∷ []) = (bytes ≡ part) × HasNoEnd part
AreParts bytes (part ∷ next ∷ later) = HasNoEnd part × (b : ℕ) × (rest : List ℕ) × (ends_line b ≡ true) × (bytes ≡ part ++ b ∷ rest) × AreParts rest (next ∷ later)

-- the same parts as a function
abbrev pub perf_parts : List ℕ → List (List ℕ)
perf_parts bytes = slice_split ends_line bytes

-- a line with any byte; others are skipped
abbrev pub is_filled : List ℕ → Bool
is_filled [] = false
is_filled (b ∷ line) = true

-- the lines of a perf map: the parts that aren't empty
abbrev pub perf_lines : List ℕ → List (List ℕ)
perf_lines bytes = filter is_filled (perf_parts bytes)

-- the lines tell these functions, one by one
abbrev pub ArePerfLines : List (List ℕ) → List PerfFunction → Type 0
ArePerfLines [] [] = Unit {0}
ArePerfLines (line ∷ lines) (f ∷ functions) = IsPerfLine line f × ArePerfLines lines functions
ArePerfLines _ _ = ⊥

-- a function in front of those of the later lines
abbrev pub before_functions : Option PerfFunction → Option (List PerfFunction) → Option (List PerfFunction)
before_functions first later = option_and_then (λ f. option_map (λ functions. f ∷ functions) later) first

-- the functions of lines; none where one of them has another form
abbrev pub functions_of : List (List ℕ) → Option (List PerfFunction)
functions_of [] = Some []
functions_of (line ∷ lines) = before_functions (perf_function_in line) (functions_of lines)

-- the functions of a perf map, in its order; none where a line has another form
unfoldable pub perf_functions_in : List ℕ → Option (List PerfFunction)
perf_functions_in bytes = functions_of (perf_lines bytes)

-- how many bytes stand before the first end of a line
abbrev pub line_len : List ℕ → ℕ
line_len text = prefix_len (λ b. not (ends_line b)) text

-- those bytes
abbrev pub line_front : List ℕ → List ℕ
line_front text = take (line_len text) text
