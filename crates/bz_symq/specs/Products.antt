-- Product by product: of which file it is made, what it is, and why there may be none.
use Rattle.std.specs.Prelude.{◌≡◌, ◌⊎◌, ℕ, List, Option, Some, None, Result, Ok, Err}
use Rattle.bz_base.specs.ErrorNames.{name_of}
use Rattle.bz_base.specs.declared.error.Error.{Error}
use Rattle.bz_base.specs.declared.error.Error.TheVariants as errors
use Rattle.bz_files.specs.World.{World, Entry, entry_at}
use Rattle.bz_files.specs.World.Entry.{Denied, Present}
use Rattle.bz_breakpad.specs.Table.{Table}
use Rattle.bz_breakpad.specs.Grammar.{IsFile}
use Rattle.bz_breakpad.specs.Reader.{table_in}
use Rattle.bz_canon.specs.Canon.{canonical_text}
use Rattle.bz_convert.specs.Converted.{conversion}
use Rattle.bz_convert.specs.ErrorNames as refusals
use Rattle.bz_convert.specs.declared.error.ConvertError.{ConvertError}
use Rattle.bz_symq.specs.Command.{Breakpad, Product, Converted, Canonical}
use Rattle.bz_symq.specs.Targets.{HasFile, IsSomeFileCause}

-- the path of the Breakpad file that it is made of
abbrev pub path_of : Product → List ℕ
path_of (Converted path) = path
path_of (Canonical path) = path

-- what a file is converted to, or the name of the refusal
abbrev pub by_conversion : Result (List ℕ) ConvertError → Result (List ℕ) (List ℕ)
by_conversion (Ok bytes) = Ok bytes
by_conversion (Err refusal) = Err (refusals.name_of refusal)

-- what is made of the table that the file's bytes say, or the name of the refusal
abbrev pub made_of : Product → Table → Result (List ℕ) (List ℕ)
made_of (Converted path) table = by_conversion (conversion table)
made_of (Canonical path) table = Ok (canonical_text table)

-- bytes that are no Breakpad file are refused
abbrev pub by_table : Product → Option Table → Result (List ℕ) (List ℕ)
by_table product None = Err (name_of errors.InvalidInput)
by_table product (Some table) = made_of product table

-- the same by what lies at the path
abbrev pub made_by : Product → Option Entry → Result (List ℕ) (List ℕ)
made_by product None = Err (name_of errors.NotFound)
made_by product (Some Denied) = Err (name_of errors.PermissionDenied)
made_by product (Some (Present stamp bytes)) = by_table product (table_in bytes)

abbrev pub made_in : Product → World → Result (List ℕ) (List ℕ)
made_in product world = made_by product (entry_at world (path_of product))

-- the bytes are a Breakpad file, and this is what its table makes
pub record IsMadeOf (product : Product) (bytes : List ℕ) (result : Result (List ℕ) (List ℕ)) : Type 0 where
  pub table : Table
  pub accepted : IsFile bytes table
  pub made : made_of product table ≡ result

-- the product is made of the file in the world
abbrev pub MadeIn : Product → World → List ℕ → Type 0
MadeIn product world made = HasFile (λ bytes. IsMadeOf product bytes (Ok made)) (entry_at world (path_of product))

-- whatever the files tell, it is made of some Breakpad file
abbrev pub MadeOfSome : Product → List ℕ → Type 0
MadeOfSome product made = (bytes : List ℕ) × IsMadeOf product bytes (Ok made)

-- nothing is made of the bytes, by the refusal of this name: they are no Breakpad file,
-- or their table is refused
abbrev pub IsUnmadeOf : Product → List ℕ → List ℕ → Type 0
IsUnmadeOf product bytes name = ((name ≡ name_of errors.InvalidInput) × ((table : Table) → IsFile bytes table → ⊥)) ⊎ IsMadeOf product bytes (Err name)

-- why nothing is made of what lies at a path: there is nothing, it may not be read,
-- or its bytes are refused
abbrev pub IsUnmadeBy : Product → Option Entry → List ℕ → Type 0
IsUnmadeBy product None name = name ≡ name_of errors.NotFound
IsUnmadeBy product (Some Denied) name = name ≡ name_of errors.PermissionDenied
IsUnmadeBy product (Some (Present stamp bytes)) name = IsUnmadeOf product bytes name

abbrev pub UnmadeIn : Product → World → List ℕ → Type 0
UnmadeIn product world name = IsUnmadeBy product (entry_at world (path_of product)) name

-- whatever the files tell, why nothing is made: a refusal that a Breakpad file may have, or that of
-- some file's table, has this name
abbrev pub UnmadeOfSome : Product → List ℕ → Type 0
UnmadeOfSome product name =
    ((e : Error) × IsSomeFileCause (Breakpad (path_of product)) e × (name ≡ name_of e)) ⊎ ((bytes : List ℕ) × IsMadeOf product bytes (Err name))
