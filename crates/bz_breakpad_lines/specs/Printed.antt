-- The plainest text of a table: its module, its names by ascending ids, its PUBLIC records,
-- and its functions.
-- Each function has its inlined calls and then its lines.
use Rattle.std.specs.Prelude.{ℕ, ◌<◌, List, [], ◌∷◌, ◌++◌, map, flat_map, Option, Some, None}
use Rattle.std.specs.List.{AllByRecursion}
use Rattle.bz_breakpad_lines.specs.Choice.{One}
use Rattle.bz_breakpad_lines.specs.Kinds.{as_module, as_info, as_file, as_origin, as_public, as_func, as_line, as_inline}
use Rattle.bz_breakpad_lines.specs.Records.{INNER}
use Rattle.bz_breakpad_lines.specs.Table.{SourceLine, Inlinee, Function, PublicSymbol, Table}
use Rattle.bz_breakpad_lines.specs.Contexts.{Record}
use Rattle.bz_breakpad_lines.specs.Contexts.Record.{Top, OfFunc}
use Rattle.bz_breakpad_lines.specs.Written.{RecordFits, records_text}

abbrev pub info_record : Record
info_record = Top as_info

abbrev pub module_records : Option (List ℕ) → List Record
module_records None = []
module_records (Some name) = Top (as_module name) ∷ []

abbrev pub file_record : ℕ × List ℕ → Record
file_record named = Top (as_file named)

abbrev pub origin_record : ℕ × List ℕ → Record
origin_record named = Top (as_origin named)

abbrev pub public_record : PublicSymbol → Record
public_record p = Top (as_public (p.start, (p.parameter_size, p.name)))

abbrev pub func_record : Function → Record
func_record f = Top (as_func (f.start, (f.size, (f.parameter_size, f.name))))

-- an INLINE record of one range
abbrev pub inlinee_one : Inlinee → One INNER
inlinee_one i = as_inline (i.depth, (i.call_line, (i.call_file, (i.origin, (i.start, (i.size, tt)) ∷ []))))

abbrev pub line_one : SourceLine → One INNER
line_one l = as_line (l.start, (l.size, (l.line, (l.file, tt))))

-- the inlined calls and lines of a function
abbrev pub function_ones : Function → List (One INNER)
function_ones f = map inlinee_one f.inlinees ++ map line_one f.lines

-- a function, its inlined calls, and its lines
abbrev pub function_records : Function → List Record
function_records f = func_record f ∷ map OfFunc (function_ones f)

abbrev pub table_records : Table → List Record
table_records t =
    module_records t.«module» ++
    (map file_record t.files ++
    (map origin_record t.origins ++
    (map public_record t.publics ++ flat_map function_records t.functions)))

-- a file has one record at least
abbrev pub or_info : List Record → List Record
or_info [] = info_record ∷ []
or_info (r ∷ records) = r ∷ records

-- the text of the table
abbrev pub printed : Table → List ℕ
printed t = records_text (or_info (table_records t))

-- each id is below those after it
abbrev pub AreAscending : List (ℕ × List ℕ) → Type 0
AreAscending [] = Unit {0}
AreAscending (n ∷ names) = AllByRecursion (λ m. n.0 < m.0) names × AreAscending names

-- a function whose numbers and name can stand in lines
pub record FunctionFits (f : Function) : Type 0 where
  pub func_fits : RecordFits (func_record f)
  pub inlinees_fit : AllByRecursion (λ i. RecordFits (OfFunc (inlinee_one i))) f.inlinees
  pub lines_fit : AllByRecursion (λ l. RecordFits (OfFunc (line_one l))) f.lines

-- a table whose numbers and names can stand in lines, and whose ids ascend
pub record IsPrintable (t : Table) : Type 0 where
  pub module_fits : AllByRecursion RecordFits (module_records t.«module»)
  pub files_fit : AllByRecursion (λ n. RecordFits (file_record n)) t.files
  pub origins_fit : AllByRecursion (λ n. RecordFits (origin_record n)) t.origins
  pub publics_fit : AllByRecursion (λ p. RecordFits (public_record p)) t.publics
  pub functions_fit : AllByRecursion FunctionFits t.functions
  pub files_ascend : AreAscending t.files
  pub origins_ascend : AreAscending t.origins
