-- What a resolver holds, what it comes from, and what it finds.
use Rattle.std.specs.Prelude.{◌≡◌, ℕ, Bool, false, List, Option, Some, None, Result, Ok, Err}
use Rattle.bz_base.specs.Answer.{Answer, Resolved, Symbol}
use Rattle.bz_base.specs.Answer.Answer.{Known, Unknown}
use Rattle.bz_base.specs.declared.error.Error.{Error}
use Rattle.bz_base.specs.declared.error.Error.TheVariants as errors
use Rattle.bz_base.specs.declared.types.FindSymOpts.{FindSymOpts}
use Rattle.bz_base.specs.declared.types.Reason.{Reason}
use Rattle.bz_base.specs.declared.types.SrcLang.TheVariants as languages
use Rattle.bz_breakpad.specs.Plain.{plain}
use Rattle.bz_breakpad_lines.specs.Reader.{table_in}
use Rattle.bz_breakpad_lines.specs.Table.{Table}
use Rattle.bz_files.specs.World.{Entry, Denied, Present}

-- a Breakpad file, and the path that it was read from
pub record Resolver : Type 0 where
  pub bytes : List ℕ
  pub path : List ℕ

-- bytes with a table are a Breakpad file
abbrev pub read_of : List ℕ → Option Table → Result (List ℕ) Error
read_of bytes None = Err errors.InvalidInput
read_of bytes (Some table) = Ok bytes

-- what opening a file answers by what lies at its path
abbrev pub opened : Option Entry → Result (List ℕ) Error
opened None = Err errors.NotFound
opened (Some Denied) = Err errors.PermissionDenied
opened (Some (Present stamp bytes)) = read_of bytes (table_in bytes)

-- a symbol as a table of symbols gives it, without an address's distance from its start and without
-- the field `public`
abbrev pub resolved_in : Symbol → Resolved
resolved_in s = record {
  name = s.name;
  «module» = s.«module»;
  addr = s.addr;
  size = s.size;
  lang = languages.Unknown;
  site = s.site;
  calls = s.calls;
}

-- an answer as a table of symbols gives it
abbrev pub found_in : Result Answer Error → Result (Result Resolved Reason) Error
found_in (Ok (Known s)) = Ok (Ok (resolved_in s))
found_in (Ok (Unknown reason)) = Ok (Err reason)
found_in (Err e) = Err e

-- the answer with the field `public` false
abbrev pub unmarked : Result Answer Error → Result Answer Error
unmarked (Ok (Known s)) = Ok (Known (record s { public = false }))
unmarked (Ok (Unknown reason)) = Ok (Unknown reason)
unmarked (Err e) = Err e

-- the answer with this field `public`
abbrev pub marked : Bool → Answer → Answer
marked public (Known s) = Known (record s { public = public })
marked public (Unknown reason) = Unknown reason

-- it is the plain answer of a Breakpad file at the address
abbrev pub IsPlain : List ℕ → FindSymOpts → ℕ → Result (Result Resolved Reason) Error → Type 0
IsPlain bytes opts addr answer = (table : Table) × (table_in bytes ≡ Some table) × (answer ≡ found_in (plain table opts addr))
