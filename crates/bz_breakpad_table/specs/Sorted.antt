-- What is kept of a file stands for its table: the functions, their keys in order,
-- and the keys' starts.
-- Keys stand by start, then by size, then as in the file.
use Rattle.std.specs.Prelude.{◌≡◌, ℕ, List, length, map, Some, option_map}
use Rattle.bz_breakpad_table.specs.FunctionKeys.{AreSortedKeys}
use Rattle.bz_breakpad_table.specs.Kept.{AreNested, TableFits, kept_functions, kept_names, kept_public, text_at}
use Rattle.bz_breakpad_table.specs.Publics.{IsPublicTable}
use Rattle.bz_breakpad_lines.specs.Reader.{table_in}
use Rattle.bz_breakpad_lines.specs.Table.{Table}
use Rattle.bz_breakpad_table.specs.declared.publics.PublicTable.{PublicTable}
use Rattle.bz_breakpad_table.specs.declared.types.FunctionKey.{FunctionKey}
use Rattle.bz_breakpad_table.specs.declared.types.FunctionTable.{FunctionTable}
use Rattle.bz_breakpad_table.specs.declared.types.KeptTable.{KeptTable}

-- the names, functions and PUBLIC records are the table's, and the keys are those of the functions in
-- order.
-- Every part is one of the bytes
pub record StandsFor (bytes : List ℕ) (table : Table) (kept : KeptTable) : Type 0 where
  pub module_is : option_map (text_at bytes) kept.«module» ≡ table.«module»
  pub count : length table.functions ≡ length kept.code.functions.items
  pub functions : AreNested table.functions (kept_functions bytes kept.code)
  pub keys : AreSortedKeys kept.code.functions.items kept.code.keys.items
  pub files : kept_names bytes kept.files ≡ table.files
  pub origins : kept_names bytes kept.origins ≡ table.origins
  pub publics : map (kept_public bytes) kept.publics.items ≡ table.publics
  pub fits : TableFits bytes kept

-- the starts of the functions, in the order of their keys
abbrev pub starts_of : FunctionTable → List ℕ
starts_of code = map (λ (k : FunctionKey). k.start) code.keys.items

-- the bytes have a table, what is kept stands for it, and the starts are those of its functions and
-- PUBLIC records
pub record IsKept (bytes : List ℕ) (kept : KeptTable) (starts : List ℕ) (publics : PublicTable) : Type 0 where
  pub table : Table
  pub read : table_in bytes ≡ Some table
  pub stands : StandsFor bytes table kept
  pub starts_are : starts ≡ starts_of kept.code
  pub publics_are : IsPublicTable kept.publics.items publics
