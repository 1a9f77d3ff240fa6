-- What a file lists besides its functions: its PUBLIC records, and the ids of names.
use Rattle.std.specs.Prelude.{ℕ, List, [], Option, Some, None}
use Rattle.bz_base.specs.Sorting.{sorted}
use Rattle.bz_breakpad_lines.specs.Reader.{table_in}
use Rattle.bz_breakpad_lines.specs.Table.{PublicSymbol, Table}
use Rattle.bz_breakpad.specs.declared.types.PublicSymbol.{PublicSymbol as LentPublic}

abbrev pub publics_of : Option Table → List PublicSymbol
publics_of None = []
publics_of (Some table) = table.publics

-- the PUBLIC records of a file, in its order
abbrev pub publics_in : List ℕ → List PublicSymbol
publics_in bytes = publics_of (table_in bytes)

-- the same by address; those of one address stand as in the file
abbrev pub publics_in_order : List ℕ → List PublicSymbol
publics_in_order bytes = sorted (λ p. p.start) (λ p. 0) (publics_in bytes)

-- a PUBLIC record that is lent
abbrev pub lent_public : LentPublic → PublicSymbol
lent_public p = record { start = p.addr; parameter_size = p.parameter_size; name = p.name.now }

abbrev pub files_of : Option Table → List (ℕ × List ℕ)
files_of None = []
files_of (Some table) = table.files

-- the ids of FILE records with their names, by id
abbrev pub files_in : List ℕ → List (ℕ × List ℕ)
files_in bytes = files_of (table_in bytes)

abbrev pub origins_of : Option Table → List (ℕ × List ℕ)
origins_of None = []
origins_of (Some table) = table.origins

-- the ids of INLINE_ORIGIN records with their names, by id
abbrev pub origins_in : List ℕ → List (ℕ × List ℕ)
origins_in bytes = origins_of (table_in bytes)
