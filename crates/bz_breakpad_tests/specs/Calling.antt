-- What a caller asks of a Breakpad file at a path.
use Rattle.std.specs.Prelude.{◌≡◌, ℕ, List, Option, Some, None, Result, Ok, Err}
use Rattle.bz_base.specs.Answer.{Resolved}
use Rattle.bz_base.specs.declared.error.Error.{Error}
use Rattle.bz_base.specs.declared.types.FindSymOpts.TheVariants as asked
use Rattle.bz_base.specs.declared.types.Reason.{Reason}
use Rattle.bz_breakpad.specs.Resolver.{IsPlain, opened}
use Rattle.bz_files.specs.World.{World, Told, entry_at}

-- the name in an answer, if there is a symbol; none at all where the address is refused
abbrev pub name_of : Result (Result Resolved Reason) Error → Option (Option (List ℕ))
name_of (Ok (Ok symbol)) = Some (Some symbol.name)
name_of (Ok (Err reason)) = Some None
name_of (Err e) = None

-- this is the name, if there is one, at an address of a Breakpad file of these bytes
pub record HasName (bytes : List ℕ) (addr : ℕ) (name : Option (List ℕ)) : Type 0 where
  -- what they answer at the address
  pub answer : Result (Result Resolved Reason) Error
  pub plain : IsPlain bytes asked.Basic addr answer
  -- the name is the answer's
  pub named : name_of answer ≡ Some name

-- this is the name, if there is one, at an address of the Breakpad file at a path, in a world of files
-- that may be told
pub record IsNamed (world : Option World) (path : List ℕ) (addr : ℕ) (name : Option (List ℕ)) : Type 0 where
  -- the file's bytes
  pub bytes : List ℕ
  -- where the world is told, they lie at the path
  pub there : Told world (λ world. opened (entry_at world path) ≡ Ok bytes)
  -- they have the name at the address
  pub named : HasName bytes addr name
