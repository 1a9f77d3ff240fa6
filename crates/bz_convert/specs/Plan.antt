-- What of a Breakpad file is laid out: each function with its rows and the calls that were inlined into
-- it, in texts. The choice is this repository's own, so that the GSYM file answers alike (`Alike`).
use Rattle.std.specs.Prelude.{ℕ, ◌+◌, Bool, ◌==◌, ◌&&◌, not, nat_le, nat_lt, List, [], ◌∷◌, map, Option, None, option_map, unwrap_or, if◌then◌else◌}
use Rattle.std.specs.List.{filter, list_any}
use Rattle.bz_base.specs.Bind.{◌>>=◌}
use Rattle.bz_base.specs.Path.{split}
use Rattle.bz_base.specs.Sorting.{sorted}
use Rattle.bz_base.specs.Span.{last_address}
use Rattle.bz_breakpad_function.specs.InOrder.{ordered_functions}
use Rattle.bz_breakpad_function.specs.Locations.{line_at}
use Rattle.bz_breakpad_lines.specs.Names.{name_for}
use Rattle.bz_breakpad_lines.specs.Table.{SourceLine, Inlinee, Function, Table}
use Rattle.bz_convert.specs.Rows.{rows_from}
use Rattle.bz_gsym_layout.specs.Nesting.{map_forest, nested}
use Rattle.bz_gsym_layout.specs.Plan.{Called, Code, Line, Source, no_source}

-- a path that is cut; an absent directory is the empty text
abbrev pub source_by : Option (List ℕ) × List ℕ → Source
source_by cut = record { dir = unwrap_or cut.0 []; file = cut.1 }

-- the source file of an id: none if no record has the id, or its name has no component
abbrev pub located : Table → ℕ → Option Source
located table id = option_map source_by (name_for id table.files >>= split)

-- the source file of an id, and the text of an origin; an empty one if it isn't known
abbrev pub source_named : Table → ℕ → Source
source_named table id = unwrap_or (located table id) no_source

abbrev pub origin_named : Table → ℕ → List ℕ
origin_named table id = unwrap_or (name_for id table.origins) []

abbrev pub line_in : Table → ℕ → ℕ → Line
line_in table id line = record { source = source_named table id; line = line }

abbrev pub line_of : Table → SourceLine → Line
line_of table r = line_in table r.file r.line

abbrev pub called : Table → Inlinee → Called
called table i = record { start = i.start; size = i.size; name = origin_named table i.origin; at = line_in table i.call_file i.call_line }

-- two line records say the same
abbrev pub same_line : SourceLine → SourceLine → Bool
same_line a b = (a.start == b.start && a.size == b.size) && (a.line == b.line && a.file == b.file)

-- two inlined calls say the same
abbrev pub same_call : Inlinee → Inlinee → Bool
same_call a b = (a.depth == b.depth && (a.start == b.start && a.size == b.size)) && (a.call_line == b.call_line && (a.call_file == b.call_file && a.origin == b.origin))

-- a function has rows and calls only if it has a size and its end fits 64 bits
abbrev pub is_checked : Function → Bool
is_checked f = not (f.size == 0) && nat_le (f.start + f.size) last_address

-- the addresses of a function at which another line record answers than before, with those records
abbrev pub changes : Function → List (ℕ × SourceLine)
changes f = if is_checked f then rows_from same_line (λ addr. line_at addr f.lines) None f.start f.size else []

-- the calls of a list; those that say the same are one call
abbrev pub distinct_calls : List Inlinee → List Inlinee
distinct_calls [] = []
distinct_calls (i ∷ calls) = if list_any (same_call i) calls then distinct_calls calls else i ∷ distinct_calls calls

abbrev pub has_size : Inlinee → Bool
has_size i = nat_lt 0 i.size

-- the calls that have a size, each behind those around it
abbrev pub sized_calls : Function → List Inlinee
sized_calls f = sorted (λ i. i.start) (λ i. i.depth) (filter has_size (distinct_calls f.inlinees))

abbrev pub calls_beside : {A B : Type 0} → List A → List B → List B
calls_beside [] calls = []
calls_beside (row ∷ rows) calls = calls

-- they are laid out only where there are rows
abbrev pub laid_calls : Function → List Inlinee
laid_calls f = calls_beside (changes f) (sized_calls f)

-- a row in texts
abbrev pub row_in : Table → ℕ × SourceLine → ℕ × Line
row_in table row = (row.0, line_of table row.1)

abbrev pub code_of : Table → Function → Code
code_of table f = record {
  start = f.start;
  size = f.size;
  name = f.name;
  rows = map (row_in table) (changes f);
  calls = map_forest (called table) (nested (λ i. i.depth) 0 (laid_calls f));
}

-- the functions by start and size
abbrev pub plan : Table → List Code
plan table = map (code_of table) (ordered_functions table.functions)
