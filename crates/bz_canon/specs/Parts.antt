-- The parts of a canonical text, as they are written.
use Rattle.std.specs.Prelude.{ℕ, List, [], ◌∷◌, ◌++◌, decimal, flat_map, map}
use Rattle.bz_base.specs.Byte.{line_feed, space}
use Rattle.bz_base.specs.Line.{ended}
use Rattle.bz_breakpad.specs.InOrder.{functions_in_order}
use Rattle.bz_breakpad_lines.specs.Printed.{function_records}
use Rattle.bz_breakpad_lines.specs.Table.{Function}
use Rattle.bz_breakpad_lines.specs.Contexts.{Record}
use Rattle.bz_breakpad_lines.specs.Written.{record_text, records_text}
use Rattle.bz_canon.specs.Canon.{canon_function}

-- the line of each item's record
abbrev pub lines_of : {X : Type 0} → (X → Record) → List X → List ℕ
lines_of record_of items = flat_map (λ x. ended (record_text (record_of x))) items

-- a tag, an id and its name; and such a line for each
abbrev pub named_line : List ℕ → ℕ × List ℕ → List ℕ
named_line tag named = tag ++ space ∷ (decimal named.0 ++ space ∷ (named.1 ++ line_feed ∷ []))

abbrev pub named_lines : List ℕ → List (ℕ × List ℕ) → List ℕ
named_lines tag names = flat_map (named_line tag) names

-- the records of these functions
abbrev pub functions_text : List Function → List ℕ
functions_text functions = flat_map (λ f. records_text (function_records f)) functions

-- the functions of a file in order, each in its canonical form
abbrev pub canon_functions : List ℕ → List Function
canon_functions bytes = map canon_function (functions_in_order bytes)
