-- The functions of a file, in its order.
use Rattle.std.specs.Prelude.{ℕ, List, [], Option, Some, None, slice_index_or}
use Rattle.bz_breakpad_table.specs.Kept.{IsNested, function_seen}
use Rattle.bz_breakpad_table.specs.Search.{IsFunction}
use Rattle.bz_breakpad_lines.specs.Reader.{table_in}
use Rattle.bz_breakpad_lines.specs.Table.{Function, Table}
use Rattle.bz_breakpad_table.specs.declared.types.FunctionTable.{FunctionTable}
use Rattle.bz_breakpad_table.specs.declared.types.KeptFunction.{KeptFunction}

abbrev pub functions_of : Option Table → List Function
functions_of None = []
functions_of (Some table) = table.functions

-- the functions of a file, in its order
abbrev pub functions_in : List ℕ → List Function
functions_in bytes = functions_of (table_in bytes)

-- what stands at an index where no function does
abbrev pub no_function : Function
no_function = record { start = 0; size = 0; parameter_size = 0; name = []; lines = []; inlinees = [] }

-- the function of a file at an index, in its order
unfoldable pub function_in : List ℕ → ℕ → Function
function_in bytes index = slice_index_or (functions_of (table_in bytes)) index no_function

-- the function of an index is kept, with its records in order
pub record IsKeptFunction (bytes : List ℕ) (code : FunctionTable) (kept : KeptFunction) (index : ℕ) : Type 0 where
  pub nested : IsNested (function_in bytes index) (function_seen bytes code kept)
  pub kept_as : IsFunction bytes code kept
