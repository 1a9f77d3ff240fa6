-- The table of a Breakpad file, read from its front line by line.
-- That it is the table of the grammar is a law of this crate.
use Rattle.std.specs.Prelude.{ℕ, ◌+◌, Bool, false, ◌&&◌, nat_lt, List, [], ◌∷◌, ◌++◌, Option, Some, None, is_some, option_map, if◌then◌else◌}
use Rattle.bz_base.specs.Bind.{◌>>=◌}
use Rattle.bz_base.specs.Line.{ended_lines}
use Rattle.bz_breakpad_lines.specs.Byte.{is_nothing}
use Rattle.bz_breakpad_lines.specs.Kinds.{TopRecord, top_of, inner_of}
use Rattle.bz_breakpad_lines.specs.Kinds.TopRecord.{Func}
use Rattle.bz_breakpad_lines.specs.Says.{module_of, file_of, origin_of, public_of, with_inner}
use Rattle.bz_breakpad_lines.specs.Names.{with_names}
use Rattle.bz_breakpad_lines.specs.Table.{Function, PublicSymbol, Table}
use Rattle.bz_breakpad_lines.specs.Contexts.{Context, Record, context_after, white_allowed_after, record_at, after_white}
use Rattle.bz_breakpad_lines.specs.Contexts.Context.{Outside}
use Rattle.bz_breakpad_lines.specs.Contexts.Record.{Top, OfFunc, OfCfi}

-- what has been read: the functions whose records are at their end,
-- and the one whose records are being read.
-- Beside them, the other records, and the count of all
pub record Reading : Type 0 where
  pub «module» : Option (List ℕ)
  pub closed : List Function
  pub current : Option Function
  pub files : List (ℕ × List ℕ)
  pub origins : List (ℕ × List ℕ)
  pub publics : List PublicSymbol
  pub count : ℕ

abbrev pub nothing_read : Reading
nothing_read = record { «module» = None; closed = []; current = None; files = []; origins = []; publics = []; count = 0 }

abbrev pub listed : {A : Type 0} → Option A → List A
listed None = []
listed (Some x) = x ∷ []

abbrev pub functions_read : Reading → List Function
functions_read reading = reading.closed ++ listed reading.current

-- the module, where the record names one
abbrev pub module_with : Option (List ℕ) → Option (List ℕ) → Option (List ℕ)
module_with «module» None = «module»
module_with «module» (Some name) = Some name

-- a record by itself ends the function before it
abbrev pub closed_with : Reading → Record → List Function
closed_with reading (Top one) = functions_read reading
closed_with reading (OfFunc one) = reading.closed
closed_with reading OfCfi = reading.closed

abbrev pub begun : TopRecord → Option Function
begun (Func f) = Some f
begun _ = None

abbrev pub current_with : Option Function → Record → Option Function
current_with current (Top one) = begun (top_of one)
current_with current (OfFunc one) = option_map (λ f. with_inner f (inner_of one ∷ [])) current
current_with current OfCfi = current

abbrev pub publics_with : List PublicSymbol → Option PublicSymbol → List PublicSymbol
publics_with publics None = publics
publics_with publics (Some symbol) = publics ++ symbol ∷ []

-- one record more
abbrev pub with_record : Reading → Record → Reading
with_record reading r = record {
  «module» = module_with reading.«module» (module_of r);
  closed = closed_with reading r;
  current = current_with reading.current r;
  files = with_names reading.files (listed (file_of r));
  origins = with_names reading.origins (listed (origin_of r));
  publics = publics_with reading.publics (public_of r);
  count = reading.count + 1;
}

-- one record more, unless it is a MODULE record and not the first
abbrev pub next_read : Reading → Record → Option Reading
next_read reading r = if is_some (module_of r) && nat_lt 0 reading.count then None else Some (with_record reading r)

-- what has been read, and then the lines
abbrev pub lines_read : Context → Bool → Reading → List (List ℕ) → Option Reading
lines_read c white_allowed reading [] = Some reading
lines_read c white_allowed reading (line ∷ lines) =
    if white_allowed && is_nothing (after_white white_allowed line)
    then lines_read c white_allowed reading lines
    else record_at c (after_white white_allowed line) >>= (λ r.
    next_read reading r >>= (λ next. lines_read (context_after r) (white_allowed_after r) next lines))

-- the file that was read
abbrev pub table_read : Reading → Table
table_read reading = record {
  «module» = reading.«module»;
  functions = functions_read reading;
  files = reading.files;
  origins = reading.origins;
  publics = reading.publics;
}

-- what is read of the bytes, if they are a Breakpad file
unfoldable pub reading_in : List ℕ → Option Reading
reading_in [] = None
reading_in (b ∷ bytes) = ended_lines (b ∷ bytes) >>= lines_read Outside false nothing_read

abbrev pub table_in : List ℕ → Option Table
table_in bytes = option_map table_read (reading_in bytes)

-- the table, and how many records there are
abbrev pub counted_in : List ℕ → Option (Table × ℕ)
counted_in bytes = option_map (λ reading. (table_read reading, reading.count)) (reading_in bytes)
