-- What a resolver holds, and what it comes from.
use Rattle.std.specs.Prelude.{ℕ, if◌then◌else◌, List, Option, Some, None, Result, Ok, Err}
use Rattle.bz_base.specs.declared.error.Error.{Error}
use Rattle.bz_base.specs.declared.error.Error.TheVariants as errors
use Rattle.bz_files.specs.World.{Entry, Denied, Present}
use Rattle.bz_gsym.specs.Tables.{is_gsym}

-- a GSYM file, and the path that it was read from
pub record Resolver : Type 0 where
  pub bytes : List ℕ
  pub path : Option (List ℕ)

-- what opening a file answers by what lies at its path
abbrev pub opened : Option Entry → Result (List ℕ) Error
opened None = Err errors.NotFound
opened (Some Denied) = Err errors.PermissionDenied
opened (Some (Present stamp bytes)) = if is_gsym bytes then Ok bytes else Err errors.InvalidData
