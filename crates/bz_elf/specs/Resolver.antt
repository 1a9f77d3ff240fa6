-- What a resolver holds, and what it comes from.
use Rattle.std.specs.Prelude.{ℕ, List, Option, Some, None, Result, Err}
use Rattle.bz_base.specs.declared.error.Error.{Error}
use Rattle.bz_base.specs.declared.error.Error.TheVariants as errors
use Rattle.bz_cache.specs.View.{by_format}
use Rattle.bz_files.specs.World.{Entry, Denied, Present}
use Rattle.bz_elf.specs.Format.{format_test}

-- an ELF file, and the path that names it
pub record Resolver : Type 0 where
  pub bytes : List ℕ
  pub path : List ℕ

-- what opening a file answers by what lies at its path
abbrev pub opened : Option Entry → Result (List ℕ) Error
opened None = Err errors.NotFound
opened (Some Denied) = Err errors.PermissionDenied
opened (Some (Present stamp bytes)) = by_format bytes (format_test bytes)
