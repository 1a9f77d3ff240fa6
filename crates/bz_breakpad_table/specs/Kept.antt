-- What is kept of a file, as its bytes say it.
-- Its records are those of Breakpad's docs/symbol_files.md.
use Rattle.std.specs.Prelude.{◌≡◌, ◌≤◌, ◌-◌, ℕ, List, [], ◌∷◌, ◌++◌, length, drop, map, Option, Some, option_map, IsUtf8, slice_range, IfSome, IsSome}
use Rattle.std.specs.List.{AllByRecursion, filter_map}
use Rattle.std.specs.Map.{values_of}
use Rattle.bz_base.specs.Line.{ended_lines}
use Rattle.bz_base.specs.Nearest.{IsTable}
use Rattle.bz_base.specs.Starts.{NeverDescends}
use Rattle.bz_breakpad_lines.specs.Calls.{call_read}
use Rattle.bz_breakpad_table.specs.CallRanges.{call_start}
use Rattle.bz_breakpad_lines.specs.Choice.{body_at}
use Rattle.bz_breakpad_lines.specs.Line.{line_front, line_in}
use Rattle.bz_breakpad_table.specs.LineKeys.{places_of}
use Rattle.bz_breakpad_table.specs.LineRun.{AreLineRecords, HasLastFeed, IsLineRun, IsOpenRun, lines_in}
use Rattle.bz_breakpad_lines.specs.LineStarts.{ReadsLine, line_size, line_start, line_starts}
use Rattle.bz_breakpad_lines.specs.Reader.{Reading}
use Rattle.bz_breakpad_lines.specs.Table.{SourceLine, Inlinee, Function, PublicSymbol, Table}
use Rattle.bz_breakpad_table.specs.declared.functions.FunctionsReading.{FunctionsReading}
use Rattle.bz_breakpad_table.specs.declared.standing.LinesSoFar.{LinesSoFar}
use Rattle.bz_breakpad_table.specs.declared.standing.LinesSoFar.TheVariants as sofar
use Rattle.bz_breakpad_table.specs.declared.reading.KeptReading.{KeptReading}
use Rattle.bz_breakpad_lines.specs.declared.start_text.StartText.{StartText}
use Rattle.bz_breakpad_table.specs.declared.types.CallRange.{CallRange}
use Rattle.bz_breakpad_table.specs.declared.types.FunctionTable.{FunctionTable}
use Rattle.bz_breakpad_table.specs.declared.types.KeptFunction.{KeptFunction}
use Rattle.bz_breakpad_table.specs.declared.types.KeptPublic.{KeptPublic}
use Rattle.bz_breakpad_table.specs.declared.types.KeptTable.{KeptTable}
use Rattle.bz_breakpad_table.specs.declared.types.LineKey.{LineKey}
use Rattle.bz_breakpad_table.specs.declared.types.LineRecords.{LineRecords}
use Rattle.bz_breakpad_table.specs.declared.types.LineRecords.TheVariants as records
use Rattle.bz_breakpad_table.specs.declared.types.Part.{Part}

-- the body of a record stands at a place in the bytes: it is that of the text from there to the line's
-- end
pub record IsRecordAt (bytes : List ℕ) (start : ℕ) (body : List ℕ) : Type 0 where
  pub within : start ≤ length bytes
  pub body_is : body_at (line_front (drop start bytes)) ≡ Some body

-- the text at a part of the bytes
abbrev pub text_at : List ℕ → Part → List ℕ
text_at bytes part = slice_range bytes part.from part.to

-- the part is one of the bytes, and holds a text
pub record IsTextAt (bytes : List ℕ) (part : Part) : Type 0 where
  pub ordered : part.from ≤ part.to
  pub within : part.to ≤ length bytes
  pub utf8 : IsUtf8 (text_at bytes part)

-- the inlined call of a range, with what its record says
abbrev pub kept_call : List ℕ → CallRange → Inlinee
kept_call bytes c =
    let call = call_read bytes c.place in
    record {
      depth = c.depth;
      start = call_start c;
      size = c.size;
      call_line = call.1.0;
      call_file = call.1.1.0;
      origin = call.1.1.1.0;
    }

-- the line records that begin at these places
abbrev pub kept_lines : List ℕ → List ℕ → List SourceLine
kept_lines bytes places = filter_map (λ place. line_in (drop place bytes)) places

-- at each place a line record is read, and their starts never descend
pub record AreSearchable (bytes places : List ℕ) : Type 0 where
  pub read : AllByRecursion (ReadsLine bytes) places
  pub ascend : NeverDescends (line_starts bytes places)

-- the key is that of a line record
pub record IsLineKey (bytes : List ℕ) (key : LineKey) : Type 0 where
  pub reads : ReadsLine bytes key.place
  pub start_is : key.start ≡ line_start bytes key.place
  pub size_is : key.size ≡ line_size bytes key.place

-- the line records of a function: those of a run in the bytes, or those at a part of the places
abbrev pub records_of : List ℕ → List ℕ → LineRecords → List SourceLine
records_of bytes places (records.Run part) = lines_in (text_at bytes part)
records_of bytes places (records.Listed part) = kept_lines bytes (slice_range places part.from part.to)

-- the line records that have been read of a function
abbrev pub records_so_far : List ℕ → List LineKey → LinesSoFar → List SourceLine
records_so_far bytes keys sofar.Empty = []
records_so_far bytes keys (sofar.Run part last) = lines_in (text_at bytes part)
records_so_far bytes keys sofar.Listed = kept_lines bytes (places_of keys)

-- a function with its line records and inlined calls
abbrev pub function_of : List ℕ → KeptFunction → List SourceLine → List CallRange → Function
function_of bytes f lines inlinees = record {
  start = f.start;
  size = f.size;
  parameter_size = f.parameter_size;
  name = text_at bytes f.name;
  lines = lines;
  inlinees = map (kept_call bytes) inlinees;
}

-- a function, with its parts of the tables of places and inlined calls
abbrev pub kept_function : List ℕ → List ℕ → List CallRange → KeptFunction → Function
kept_function bytes places inlinees f =
    function_of bytes f (records_of bytes places f.lines) (slice_range inlinees f.inlinees.from f.inlinees.to)

abbrev pub kept_functions : List ℕ → FunctionTable → List Function
kept_functions bytes t = map (kept_function bytes t.lines.items t.inlinees.items) t.functions.items

-- a function whose records are being read, with the keys of those that are listed,
-- and its inlined calls
abbrev pub current_function : List ℕ → List LineKey → LinesSoFar → List CallRange → KeptFunction → Function
current_function bytes keys lines calls f = function_of bytes f (records_so_far bytes keys lines) calls

-- a function as it is kept: its line records stand by start and size,
-- and its inlined calls by depth and start
pub record IsNested (f kept : Function) : Type 0 where
  pub same : kept ≡ record f { lines = kept.lines; inlinees = kept.inlinees }
  pub lines : IsTable (λ l. l.start) (λ l. l.size) f.lines kept.lines
  pub calls : IsTable (λ i. i.depth) (λ i. i.start) f.inlinees kept.inlinees

abbrev pub AreNested : List Function → List Function → Type 0
AreNested [] [] = Unit {0}
AreNested (f ∷ functions) (k ∷ kept) = IsNested f k × AreNested functions kept
AreNested _ _ = ⊥

-- the names of ids
abbrev pub kept_names : List ℕ → List (ℕ × Part) → List (ℕ × List ℕ)
kept_names bytes names = map (λ entry. (entry.0, text_at bytes entry.1)) names

abbrev pub kept_public : List ℕ → KeptPublic → PublicSymbol
kept_public bytes p = record { start = p.start; parameter_size = p.parameter_size; name = text_at bytes p.name }

-- the records of a file, with the functions in the order in which they are kept
abbrev pub kept_table : List ℕ → KeptTable → Table
kept_table bytes t = record {
  «module» = option_map (text_at bytes) t.«module»;
  functions = kept_functions bytes t.code;
  files = kept_names bytes t.files;
  origins = kept_names bytes t.origins;
  publics = map (kept_public bytes) t.publics.items;
}

-- the table as it is kept: the records of each function are in order
pub record IsNestedTable (table kept : Table) : Type 0 where
  pub functions : AreNested table.functions kept.functions
  pub same : kept ≡ record table { functions = kept.functions }

-- the part lies in a table of so many records
pub record IsPart (count : ℕ) (part : Part) : Type 0 where
  pub ordered : part.from ≤ part.to
  pub within : part.to ≤ count

-- a run of line records stands at the part of the bytes
pub record IsRunAt (bytes : List ℕ) (part : Part) : Type 0 where
  pub within : IsPart (length bytes) part
  pub run : IsLineRun (text_at bytes part)
  pub ended : HasLastFeed (text_at bytes part)

-- the line records at a part of the places stand by start and size
pub record AreLinesAt (bytes places : List ℕ) (part : Part) : Type 0 where
  pub within : IsPart (length places) part
  pub searchable : AreSearchable bytes (slice_range places part.from part.to)
  pub table : IsTable (λ l. l.start) (λ l. l.size) (kept_lines bytes (slice_range places part.from part.to)) (kept_lines bytes (slice_range places part.from part.to))

-- line records are a run in the bytes, or those at a part of the places
abbrev pub LinesFit : List ℕ → List ℕ → LineRecords → Type 0
LinesFit bytes places (records.Run part) = IsRunAt bytes part
LinesFit bytes places (records.Listed part) = AreLinesAt bytes places part

-- a run that may go on stands at the part of the bytes
pub record IsOpenRunAt (bytes : List ℕ) (part : Part) (last : StartText) : Type 0 where
  pub within : IsPart (length bytes) part
  pub run : IsOpenRun (text_at bytes part) last

-- the line records that have been read so far are none, a run that may go on, or those of the keys
abbrev pub LinesFitSoFar : List ℕ → List LineKey → LinesSoFar → Type 0
LinesFitSoFar bytes keys sofar.Empty = keys ≡ []
LinesFitSoFar bytes keys (sofar.Run part last) = IsOpenRunAt bytes part last × (keys ≡ [])
LinesFitSoFar bytes keys sofar.Listed = AllByRecursion (IsLineKey bytes) keys

-- one line record more has been read: it goes on the run, or is listed
pub record IsLonger (bytes : List ℕ) (keys more_keys : List LineKey) (old new : LinesSoFar) (line : SourceLine) : Type 0 where
  pub fits : LinesFitSoFar bytes more_keys new
  pub are : records_so_far bytes more_keys new ≡ records_so_far bytes keys old ++ line ∷ []

-- the line records so far are listed
pub record AreListed (bytes : List ℕ) (keys more_keys : List LineKey) (old : LinesSoFar) : Type 0 where
  pub fits : AllByRecursion (IsLineKey bytes) more_keys
  pub are : kept_lines bytes (places_of more_keys) ≡ records_so_far bytes keys old

-- the line records of a function that ends are in order
pub record AreEndedInOrder (bytes places : List ℕ) (keys : List LineKey) (old : LinesSoFar) (lines : LineRecords) : Type 0 where
  pub fit : LinesFit bytes places lines
  pub table : IsTable (λ l. l.start) (λ l. l.size) (records_so_far bytes keys old) (records_of bytes places lines)

-- the line records of a run are listed, up to a rest of it
pub record AreListedTo (bytes : List ℕ) (run : Part) (rest : List ℕ) (keys : List LineKey) : Type 0 where
  pub fits : AllByRecursion (IsLineKey bytes) keys
  pub rest_is : drop (run.to - length rest) bytes ≡ rest ++ drop run.to bytes
  pub records : AreLineRecords rest
  pub ended : IsSome (ended_lines rest)
  pub are : kept_lines bytes (places_of keys) ++ lines_in rest ≡ lines_in (text_at bytes run)

-- the inlined calls at a part of their table stand by depth and start
pub record AreCallsAt (inlinees : List CallRange) (part : Part) : Type 0 where
  pub within : IsPart (length inlinees) part
  pub table : IsTable (λ c. c.depth) call_start (slice_range inlinees part.from part.to) (slice_range inlinees part.from part.to)

-- a function's name is a text, and its line records and inlined calls stand in order
pub record FunctionFits (bytes places : List ℕ) (calls : List CallRange) (f : KeptFunction) : Type 0 where
  pub name : IsTextAt bytes f.name
  pub lines : LinesFit bytes places f.lines
  pub inlinees : AreCallsAt calls f.inlinees

-- the name of a function whose records are being read is a text
pub record CurrentFits (bytes : List ℕ) (f : KeptFunction) : Type 0 where
  pub name : IsTextAt bytes f.name

abbrev pub FunctionsFit : List ℕ → FunctionTable → Type 0
FunctionsFit bytes t = AllByRecursion (FunctionFits bytes t.lines.items t.inlinees.items) t.functions.items

abbrev pub NamesFit : List ℕ → List (ℕ × Part) → Type 0
NamesFit bytes names = AllByRecursion (IsTextAt bytes) (values_of names)

abbrev pub PublicsFit : List ℕ → List KeptPublic → Type 0
PublicsFit bytes publics = AllByRecursion (λ p. IsTextAt bytes p.name) publics

-- all names are texts, all parts lie in their tables, and the records of each function stand in order
pub record TableFits (bytes : List ℕ) (t : KeptTable) : Type 0 where
  pub module_fits : IfSome t.«module» (IsTextAt bytes)
  pub functions : FunctionsFit bytes t.code
  pub files : NamesFit bytes t.files
  pub origins : NamesFit bytes t.origins
  pub publics : PublicsFit bytes t.publics.items

-- the functions whose records are at their end, and the one whose records are being read
pub record FunctionsSoFar (bytes : List ℕ) (f : FunctionsReading) (closed : List Function) (current : Option Function) : Type 0 where
  pub closed_are : AreNested closed (kept_functions bytes f.table)
  pub current_is : option_map (current_function bytes f.listed.items f.lines f.calls.items) f.current ≡ current
  pub closed_fit : FunctionsFit bytes f.table
  pub current_fits : IfSome f.current (CurrentFits bytes)
  pub lines_fit : LinesFitSoFar bytes f.listed.items f.lines

-- the part holds the name
pub record IsNameAt (bytes : List ℕ) (part : Part) (name : List ℕ) : Type 0 where
  pub fits : IsTextAt bytes part
  pub is : text_at bytes part ≡ name

pub record NamesSoFar (bytes : List ℕ) (kept : List (ℕ × Part)) (names : List (ℕ × List ℕ)) : Type 0 where
  pub are : kept_names bytes kept ≡ names
  pub fit : NamesFit bytes kept

pub record PublicsSoFar (bytes : List ℕ) (kept : List KeptPublic) (publics : List PublicSymbol) : Type 0 where
  pub are : map (kept_public bytes) kept ≡ publics
  pub fit : PublicsFit bytes kept

pub record ModuleSoFar (bytes : List ℕ) (kept : Option Part) (name : Option (List ℕ)) : Type 0 where
  pub is : option_map (text_at bytes) kept ≡ name
  pub fits : IfSome kept (IsTextAt bytes)

-- what is kept is what has been read
pub record IsSoFar (bytes : List ℕ) (kept : KeptReading) (reading : Reading) : Type 0 where
  pub module_is : ModuleSoFar bytes kept.«module» reading.«module»
  pub functions : FunctionsSoFar bytes kept.functions reading.closed reading.current
  pub files : NamesSoFar bytes kept.files reading.files
  pub origins : NamesSoFar bytes kept.origins reading.origins
  pub publics : PublicsSoFar bytes kept.publics.items reading.publics

-- a function with its records, from the table's lists
abbrev pub function_seen : List ℕ → FunctionTable → KeptFunction → Function
function_seen bytes code f = kept_function bytes code.lines.items code.inlinees.items f
