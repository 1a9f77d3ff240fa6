-- The tables that what is kept of a file stands for.
use Rattle.std.specs.Prelude.{ℕ, List}
use Rattle.bz_breakpad_lines.specs.Table.{Table}
use Rattle.bz_breakpad_table.specs.Sorted.{StandsFor}
use Rattle.bz_breakpad_table.specs.declared.types.KeptTable.{KeptTable}

-- each table that what is kept of the bytes stands for has the property
abbrev pub OfTableIn : List ℕ → KeptTable → (Table → Type 0) → Type 0
OfTableIn bytes kept HasIt = (table : Table) → StandsFor bytes table kept → HasIt table

-- so has each table that it stands for, whatever the bytes are
abbrev pub OfItsTable : KeptTable → (Table → Type 0) → Type 0
OfItsTable kept HasIt = (bytes : List ℕ) → OfTableIn bytes kept HasIt

-- what is kept of the bytes stands for a table
abbrev pub StandsForSome : List ℕ → KeptTable → Type 0
StandsForSome bytes kept = (table : Table) × StandsFor bytes table kept

-- it stands for a table that has the property
abbrev pub StandsForSuch : List ℕ → KeptTable → (Table → Type 0) → Type 0
StandsForSuch bytes kept HasIt = (table : Table) × StandsFor bytes table kept × HasIt table
