-- The functions in which line records and inlined calls are searched.
use Rattle.std.specs.Prelude.{ℕ, List}
use Rattle.bz_breakpad_table.specs.Kept.{FunctionFits}
use Rattle.bz_breakpad_table.specs.declared.types.FunctionTable.{FunctionTable}
use Rattle.bz_breakpad_table.specs.declared.types.KeptFunction.{KeptFunction}

-- a function fits the table: its name is a text, its parts lie in the table's lists,
-- and the records there are in order
abbrev pub IsFunction : List ℕ → FunctionTable → KeptFunction → Type 0
IsFunction bytes t f = FunctionFits bytes t.lines.items t.inlinees.items f
