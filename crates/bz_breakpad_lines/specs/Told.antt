-- What the records of lines tell.
use Rattle.bz_breakpad_lines.specs.Form.{Value}
use Rattle.bz_breakpad_lines.specs.Form.Form.{Many}
use Rattle.std.specs.Prelude.{◌≡◌, ℕ, List, drop, map, Option, Some, None}
use Rattle.bz_breakpad_lines.specs.Records.{CALL, FUNC, INLINE, INNER, LINE, PUBLIC, RANGE, TOP}
use Rattle.bz_breakpad_lines.specs.declared.record.InlineCall.{InlineCall}
use Rattle.bz_breakpad_lines.specs.Calls.{call_in}
use Rattle.bz_breakpad_lines.specs.Choice.{One}
use Rattle.bz_breakpad_lines.specs.Line.{EndsWith, line_in, source_line}
use Rattle.bz_breakpad_lines.specs.Kinds.{as_module, as_info, as_file, as_origin, as_public, as_func, as_stack_win, as_stack_cfi_init, as_line, as_inline, as_inner_origin, function_in, symbol_in}
use Rattle.bz_breakpad_lines.specs.Table.{Function, Inlinee, PublicSymbol}
use Rattle.bz_breakpad_lines.specs.declared.record.PublicLine.{PublicLine}
use Rattle.bz_breakpad_lines.specs.declared.record.InnerLine.{InnerLine}
use Rattle.bz_breakpad_lines.specs.declared.record.InnerLine.TheVariants as inners
use Rattle.bz_breakpad_lines.specs.Contexts as told
use Rattle.bz_breakpad_lines.specs.Contexts.{Record}
use Rattle.bz_breakpad_lines.specs.Contexts.Record.{Top, OfFunc, OfCfi}
use Rattle.bz_breakpad_lines.specs.declared.record.Context.{Context}
use Rattle.bz_breakpad_lines.specs.declared.record.Context.TheVariants as contexts
use Rattle.bz_breakpad_lines.specs.declared.record.RecordLine.{RecordLine}
use Rattle.bz_breakpad_lines.specs.declared.record.RecordLine.TheVariants as lines
use Rattle.bz_breakpad_lines.specs.declared.record.TopLine.{TopLine}
use Rattle.bz_breakpad_lines.specs.declared.record.TopLine.TheVariants as tops
use Rattle.bz_breakpad_lines.specs.declared.record.Range.{Range}
use Rattle.bz_breakpad_lines.specs.declared.record.FuncLine.{FuncLine}
use Rattle.bz_breakpad_lines.specs.declared.record.SourceLine.{SourceLine}
use Rattle.bz_breakpad_lines.specs.Table as tables

abbrev pub func_told : FuncLine → Value FUNC
func_told f = (f.start, (f.size, (f.parameter_size, f.name.now)))

abbrev pub line_told : SourceLine → Value LINE
line_told l = (l.addr, (l.size, (l.line, (l.file, tt))))

-- a line record as the table has it
abbrev pub line_seen : SourceLine → tables.SourceLine
line_seen l = source_line (line_told l)

abbrev pub call_told : InlineCall → Value CALL
call_told c = (c.depth, (c.line, (c.file, (c.origin, tt))))

abbrev pub range_told : Range → Value RANGE
range_told r = (r.addr, (r.size, tt))

abbrev pub ranges_told : List Range → Value (Many RANGE)
ranges_told ranges = map range_told ranges

abbrev pub inline_told : InlineCall → List Range → Value INLINE
inline_told call ranges = (call.depth, (call.line, (call.file, (call.origin, ranges_told ranges))))

abbrev pub public_told : PublicLine → Value PUBLIC
public_told p = (p.addr, (p.parameter_size, p.name.now))

-- a PUBLIC record as the symbol that it names
abbrev pub public_symbol : PublicLine → PublicSymbol
public_symbol p = symbol_in (public_told p)

-- a FUNC record as the function that it begins
abbrev pub function_told : FuncLine → Function
function_told f = function_in (func_told f)

abbrev pub inlinee_told : InlineCall → Range → Inlinee
inlinee_told call r = record {
  depth = call.depth;
  start = r.addr;
  size = r.size;
  call_line = call.line;
  call_file = call.file;
  origin = call.origin;
}

-- the inlined calls of an INLINE record
abbrev pub inlinees_told : InlineCall → List Range → List Inlinee
inlinees_told call ranges = map (inlinee_told call) ranges

-- the name at the end of a record by itself
abbrev pub top_name : TopLine → Option (List ℕ)
top_name (tops.Module name) = Some name.now
top_name (tops.File id path) = Some path.now
top_name (tops.InlineOrigin id name) = Some name.now
top_name (tops.Public p) = Some p.name.now
top_name (tops.Func f) = Some f.name.now
top_name _ = None

-- what of an inner record is kept as a place stands there in the bytes
abbrev pub InnerStands : List ℕ → ℕ → List ℕ → InnerLine → Type 0
InnerStands bytes start body (inners.Line l) = line_in (drop start bytes) ≡ Some (line_seen l)
InnerStands bytes start body (inners.Inline call) = call_in (drop start bytes) ≡ Some (call_told call)
InnerStands bytes start body (inners.InnerOrigin id name) = EndsWith body name.now

abbrev pub top_told : TopLine → One TOP
top_told (tops.Module name) = as_module name.now
top_told tops.Info = as_info
top_told (tops.File id path) = as_file (id, path.now)
top_told (tops.InlineOrigin id name) = as_origin (id, name.now)
top_told (tops.Public p) = as_public (public_told p)
top_told (tops.Func f) = as_func (func_told f)
top_told tops.StackWin = as_stack_win
top_told tops.StackCfiInit = as_stack_cfi_init

-- the ranges of an INLINE record stand beside it
abbrev pub inner_told : InnerLine → List Range → One INNER
inner_told (inners.Line l) ranges = as_line (line_told l)
inner_told (inners.Inline call) ranges = as_inline (inline_told call ranges)
inner_told (inners.InnerOrigin id name) ranges = as_inner_origin (id, name.now)

abbrev pub context_told : Context → told.Context
context_told contexts.Outside = told.Context.Outside
context_told contexts.InFunc = told.Context.InFunc
context_told contexts.InCfi = told.Context.InCfi

abbrev pub record_told : RecordLine → List Range → Record
record_told (lines.Top top) ranges = Top (top_told top)
record_told (lines.OfFunc inner) ranges = OfFunc (inner_told inner ranges)
record_told lines.OfCfi ranges = OfCfi
