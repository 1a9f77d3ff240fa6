-- Which bytes are a Breakpad file, and what it says: each line is blank, or a record by itself,
-- or one under another.
-- It is after docs/symbol_files.md among Breakpad's sources.
-- Where blank lines and white space may stand is this crate's choice.
use Rattle.std.specs.Prelude.{◌≡◌, ℕ, ◌<◌, Bool, true, false, List, [], ◌∷◌, length, drop, Option, Some, None}
use Rattle.std.specs.List.{AllByRecursion, filter_map}
use Rattle.bz_base.specs.Line.{AreEnded}
use Rattle.bz_breakpad_lines.specs.Byte.{is_white}
use Rattle.bz_breakpad_lines.specs.Form.{AllPass}
use Rattle.bz_breakpad_lines.specs.Says.{module_of, table_of}
use Rattle.bz_breakpad_lines.specs.Table.{Table}
use Rattle.bz_breakpad_lines.specs.Contexts.{Context, Record, context_of, IsText, IsRecord}
use Rattle.bz_breakpad_lines.specs.Contexts.Context.{Outside}
use Rattle.bz_breakpad_lines.specs.Contexts.Record.{Top, OfFunc, OfCfi}

-- what a line is
pub data Role : Type 0 where
  Blank : Role
  Is : Record → Role

-- white space may stand before a line where the line before it is blank, or a record by itself.
-- Of the lines before, the last one's role stands first
abbrev pub allows_white : List Role → Bool
allows_white [] = false
allows_white (Blank ∷ before) = true
allows_white (Is (Top one) ∷ before) = true
allows_white (Is (OfFunc one) ∷ before) = false
allows_white (Is OfCfi ∷ before) = false

-- what may stand under the owner of a line, which is the last record by itself before it
abbrev pub under_owner : List Role → Context
under_owner [] = Outside
under_owner (Is (Top one) ∷ before) = context_of one
under_owner (Blank ∷ before) = under_owner before
under_owner (Is (OfFunc one) ∷ before) = under_owner before
under_owner (Is OfCfi ∷ before) = under_owner before

-- the line is a record: the text after white space, where that may stand, is one under the owner,
-- or else one by itself
pub record IsRecordLine (before : List Role) (line : List ℕ) (r : Record) : Type 0 where
  pub text : List ℕ
  pub text_is : IsText (allows_white before) line text
  pub record_is : IsRecord (under_owner before) text r

-- the line has the role, after lines of these roles: a blank one has only white space,
-- and stands where that may stand
abbrev pub IsRole : List Role → List ℕ → Role → Type 0
IsRole before line Blank = (allows_white before ≡ true) × AllPass is_white line
IsRole before line (Is r) = IsRecordLine before line r

-- each line has its role, by the line and the roles of those before it
abbrev pub AreRoles : List Role → List (List ℕ) → List Role → Type 0
AreRoles before [] [] = Unit {0}
AreRoles before (line ∷ lines) (role ∷ roles) = IsRole before line role × AreRoles (role ∷ before) lines roles
AreRoles before _ _ = ⊥

abbrev pub record_of : Role → Option Record
record_of Blank = None
record_of (Is r) = Some r

-- the records among the roles
abbrev pub records_of : List Role → List Record
records_of roles = filter_map record_of roles

abbrev pub IsNoModule : Record → Type 0
IsNoModule r = module_of r ≡ None

-- the bytes are a Breakpad file of one line at least, in which a MODULE record is the first record or
-- there is none.
-- The table is what it says, and so many of its lines are records
pub record Accepted (bytes : List ℕ) (table : Table) (count : ℕ) : Type 0 where
  pub lines : List (List ℕ)
  pub roles : List Role
  pub positive : 0 < length lines
  pub are_lines : AreEnded bytes lines
  pub are_roles : AreRoles [] lines roles
  pub module_first : AllByRecursion IsNoModule (drop 1 (records_of roles))
  pub says : table ≡ table_of (records_of roles)
  pub counts : count ≡ length (records_of roles)

-- the bytes are a Breakpad file that says this table
abbrev pub IsFile : List ℕ → Table → Type 0
IsFile bytes table = (count : ℕ) × Accepted bytes table count
