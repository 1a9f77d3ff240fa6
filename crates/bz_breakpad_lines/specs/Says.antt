-- What the records of a file say together, after docs/symbol_files.md among Breakpad's sources.
use Rattle.std.specs.Prelude.{ℕ, List, [], ◌∷◌, ◌++◌, flat_map, Option, Some, None}
use Rattle.std.specs.List.{filter_map}
use Rattle.bz_breakpad_lines.specs.Kinds.{TopRecord, InnerRecord, top_of, inner_of}
use Rattle.bz_breakpad_lines.specs.Kinds.TopRecord.{Module, File, Origin, Public, Func}
use Rattle.bz_breakpad_lines.specs.Kinds.InnerRecord.{Line, Inline, InnerOrigin}
use Rattle.bz_breakpad_lines.specs.Names.{names_in}
use Rattle.bz_breakpad_lines.specs.Table.{SourceLine, Inlinee, Function, Named, PublicSymbol, Table}
use Rattle.bz_breakpad_lines.specs.Contexts.{Record}
use Rattle.bz_breakpad_lines.specs.Contexts.Record.{Top, OfFunc, OfCfi}

-- the name in a MODULE record
abbrev pub module_in : TopRecord → Option (List ℕ)
module_in (Module name) = Some name
module_in _ = None

abbrev pub file_in_top : TopRecord → Option Named
file_in_top (File named) = Some named
file_in_top _ = None

abbrev pub origin_in_top : TopRecord → Option Named
origin_in_top (Origin named) = Some named
origin_in_top _ = None

abbrev pub origin_in_inner : InnerRecord → Option Named
origin_in_inner (InnerOrigin named) = Some named
origin_in_inner _ = None

abbrev pub public_in_top : TopRecord → Option PublicSymbol
public_in_top (Public symbol) = Some symbol
public_in_top _ = None

abbrev pub module_of : Record → Option (List ℕ)
module_of (Top one) = module_in (top_of one)
module_of _ = None

-- the FILE record that a record is
abbrev pub file_of : Record → Option Named
file_of (Top one) = file_in_top (top_of one)
file_of _ = None

-- the INLINE_ORIGIN record that a record is, by itself or as an inner record
abbrev pub origin_of : Record → Option Named
origin_of (Top one) = origin_in_top (top_of one)
origin_of (OfFunc one) = origin_in_inner (inner_of one)
origin_of OfCfi = None

abbrev pub public_of : Record → Option PublicSymbol
public_of (Top one) = public_in_top (top_of one)
public_of _ = None

abbrev pub line_of : InnerRecord → List SourceLine
line_of (Line line) = line ∷ []
line_of _ = []

abbrev pub inlinees_of : InnerRecord → List Inlinee
inlinees_of (Inline inlinees) = inlinees
inlinees_of _ = []

-- the inner records right under one that stands by itself: those before the next such record
abbrev pub inner_records : List Record → List InnerRecord
inner_records [] = []
inner_records (Top one ∷ records) = []
inner_records (OfFunc one ∷ records) = inner_of one ∷ inner_records records
inner_records (OfCfi ∷ records) = inner_records records

-- the function with the lines and inlined calls of further inner records
abbrev pub with_inner : Function → List InnerRecord → Function
with_inner f inner = record {
  start = f.start;
  size = f.size;
  parameter_size = f.parameter_size;
  name = f.name;
  lines = f.lines ++ flat_map line_of inner;
  inlinees = f.inlinees ++ flat_map inlinees_of inner;
}

-- the function that a record begins, with its inner records
abbrev pub function_with : TopRecord → List InnerRecord → List Function
function_with (Func f) inner = with_inner f inner ∷ []
function_with _ inner = []

abbrev pub functions_of : List Record → List Function
functions_of [] = []
functions_of (Top one ∷ records) = function_with (top_of one) (inner_records records) ++ functions_of records
functions_of (OfFunc one ∷ records) = functions_of records
functions_of (OfCfi ∷ records) = functions_of records

-- the module is the one that the first record names
abbrev pub first_module : List Record → Option (List ℕ)
first_module [] = None
first_module (r ∷ records) = module_of r

-- the table that the records make
abbrev pub table_of : List Record → Table
table_of records = record {
  «module» = first_module records;
  functions = functions_of records;
  files = names_in (filter_map file_of records);
  origins = names_in (filter_map origin_of records);
  publics = filter_map public_of records;
}
