-- Which lines are admitted in a Breakpad file, one after the other.
-- As in Breakpad's docs/symbol_files.md, a MODULE record is the first record, if there is one.
use Rattle.std.specs.Prelude.{ℕ, ◌+◌, Bool, true, false, ◌&&◌, List, [], ◌∷◌, drop, Option, Some, None, is_some, if◌then◌else◌}
use Rattle.std.specs.List.{AllByRecursion}
use Rattle.bz_base.specs.Bind.{◌>>=◌}
use Rattle.bz_breakpad_lines.specs.Byte.{is_nothing}
use Rattle.bz_breakpad_lines.specs.Grammar.{Role, AreRoles, IsNoModule, records_of}
use Rattle.bz_breakpad_lines.specs.Says.{module_of}
use Rattle.bz_breakpad_lines.specs.Contexts.{Context, Record, context_after, white_allowed_after, record_at, after_white}
use Rattle.bz_breakpad_lines.specs.Contexts.Context.{Outside}

-- the lines are admitted: each has a role after those before it,
-- and MODULE is the first record or absent
pub record AreAdmitted (lines : List (List ℕ)) : Type 0 where
  pub roles : List Role
  pub are_roles : AreRoles [] lines roles
  pub module_first : AllByRecursion IsNoModule (drop 1 (records_of roles))

-- what lines tell: the record under which the next may stand, whether white space may come before it,
-- and whether they have a record
pub record Before : Type 0 where
  pub context : Context
  pub white_allowed : Bool
  pub record_seen : Bool

-- what is told at the front of a file
abbrev pub at_front : Before
at_front = record { context = Outside; white_allowed = false; record_seen = false }

-- what is told after a record more, if it is admitted: a MODULE record isn't after another record
abbrev pub after_record : Before → Record → Option Before
after_record before r =
    if is_some (module_of r) && before.record_seen
    then None
    else Some (record { context = context_after r; white_allowed = white_allowed_after r; record_seen = true })

-- what is told after a line more, if it is admitted
unfoldable pub after_line : Before → List ℕ → Option Before
after_line before line =
    if before.white_allowed && is_nothing (after_white before.white_allowed line)
    then Some before
    else record_at before.context (after_white before.white_allowed line) >>= after_record before

-- the number of a line, if it isn't admitted, and else what comes of those after it
abbrev pub or_refused : ℕ → Option Before → (Before → Option ℕ) → Option ℕ
or_refused number None later = Some number
or_refused number (Some after) later = later after

-- the number of the first line that isn't admitted, where the lines are numbered from this one
abbrev pub refused_from : Before → ℕ → List (List ℕ) → Option ℕ
refused_from before number [] = None
refused_from before number (line ∷ lines) =
    or_refused number (after_line before line) (λ after. refused_from after (number + 1) lines)
