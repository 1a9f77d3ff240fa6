-- The kinds of record in a Breakpad file, and what a record of each kind says.
-- They are after docs/symbol_files.md among Breakpad's sources.
use Rattle.std.specs.Prelude.{ℕ, List, [], map}
use mathlib.Core.Logic.{inl, inr}
use Rattle.bz_breakpad_lines.specs.Choice.{One}
use Rattle.bz_breakpad_lines.specs.Form.{Value}
use Rattle.bz_breakpad_lines.specs.Line.{source_line}
use Rattle.bz_breakpad_lines.specs.Records.{TOP, INNER, MODULE, FILE, INLINE_ORIGIN, PUBLIC, FUNC, LINE, INLINE, INNER_ORIGIN}
use Rattle.bz_breakpad_lines.specs.Table.{SourceLine, Inlinee, Function, Named, PublicSymbol}

-- a record that stands by itself; a function has no lines nor inlined calls yet
pub data TopRecord : Type 0 where
  Module : List ℕ → TopRecord
  Info : TopRecord
  File : Named → TopRecord
  Origin : Named → TopRecord
  Public : PublicSymbol → TopRecord
  Func : Function → TopRecord
  StackWin : TopRecord
  StackCfiInit : TopRecord

-- an inner record, which belongs to a FUNC record; an INLINE record is one inlined call for each of its
-- ranges
pub data InnerRecord : Type 0 where
  Line : SourceLine → InnerRecord
  Inline : List Inlinee → InnerRecord
  InnerOrigin : Named → InnerRecord

-- an id, and then a name
abbrev pub named_in : ℕ × List ℕ → Named
named_in named = record { id = named.0; name = named.1 }

abbrev pub symbol_in : Value PUBLIC → PublicSymbol
symbol_in symbol = record { start = symbol.0; parameter_size = symbol.1.0; name = symbol.1.1 }

abbrev pub function_in : Value FUNC → Function
function_in (start, (size, (parameter_size, name))) = record {
  start = start;
  size = size;
  parameter_size = parameter_size;
  name = name;
  lines = [];
  inlinees = [];
}

-- the inlined calls of an INLINE record
abbrev pub inlinees_in : Value INLINE → List Inlinee
inlinees_in (depth, (call_line, (call_file, (origin, ranges)))) =
    map (λ range. record {
      depth = depth;
      start = range.0;
      size = range.1.0;
      call_line = call_line;
      call_file = call_file;
      origin = origin;
    }) ranges

-- The forms of a choice have no names of their own: a line is of the first of them,
-- or of one of the others.
-- Here alone each gets its name, in the order of TOP and of INNER.

-- the record by itself that a line tells
abbrev pub top_of : One TOP → TopRecord
top_of (inl name) = Module name
top_of (inr (inl info)) = Info
top_of (inr (inr (inl file))) = File (named_in file)
top_of (inr (inr (inr (inl origin)))) = Origin (named_in origin)
top_of (inr (inr (inr (inr (inl symbol))))) = Public (symbol_in symbol)
top_of (inr (inr (inr (inr (inr (inl func)))))) = Func (function_in func)
top_of (inr (inr (inr (inr (inr (inr (inl win))))))) = StackWin
top_of (inr (inr (inr (inr (inr (inr (inr init))))))) = StackCfiInit

-- the inner record that a line tells
abbrev pub inner_of : One INNER → InnerRecord
inner_of (inl line) = Line (source_line line)
inner_of (inr (inl inline)) = Inline (inlinees_in inline)
inner_of (inr (inr (inl origin))) = InnerOrigin (named_in origin)
inner_of (inr (inr (inr none))) = absurd none

-- what a line of each form tells, as one of the records by themselves
abbrev pub as_module : Value MODULE → One TOP
as_module name = inl name

abbrev pub as_info : One TOP
as_info = inr (inl tt)

abbrev pub as_file : Value FILE → One TOP
as_file file = inr (inr (inl file))

abbrev pub as_origin : Value INLINE_ORIGIN → One TOP
as_origin origin = inr (inr (inr (inl origin)))

abbrev pub as_public : Value PUBLIC → One TOP
as_public symbol = inr (inr (inr (inr (inl symbol))))

abbrev pub as_func : Value FUNC → One TOP
as_func func = inr (inr (inr (inr (inr (inl func)))))

abbrev pub as_stack_win : One TOP
as_stack_win = inr (inr (inr (inr (inr (inr (inl tt))))))

abbrev pub as_stack_cfi_init : One TOP
as_stack_cfi_init = inr (inr (inr (inr (inr (inr (inr (inl tt)))))))

-- and as one of the inner records
abbrev pub as_line : Value LINE → One INNER
as_line line = inl line

abbrev pub as_inline : Value INLINE → One INNER
as_inline inline = inr (inl inline)

abbrev pub as_inner_origin : Value INNER_ORIGIN → One INNER
as_inner_origin origin = inr (inr (inl origin))
