-- Why bytes are refused as a Breakpad file, and where.
use Rattle.std.specs.Prelude.{◌≡◌, ◌↔◌, ℕ, ◌+◌, List, [], ◌∷◌, ◌++◌, length, Option, Some, None}
use Rattle.bz_base.specs.Line.{AreEnded, AreLines, all_lines, ended_lines}
use Rattle.bz_breakpad_lines.specs.Grammar.{IsFile}
use Rattle.bz_breakpad_lines.specs.Table.{Table}
use Rattle.bz_breakpad_table.specs.Admitted.{AreAdmitted, at_front, refused_from}
use Rattle.bz_breakpad_table.specs.declared.refused.Refused.{Refused}
use Rattle.bz_breakpad_table.specs.declared.refused.Refused.TheVariants.{Line, NoEnd, Empty}

-- the line of this number is the first that isn't admitted after those before it.
-- Lines count from 1, and the last one may lack its end
pub record IsFirstRefused (bytes : List ℕ) (number : ℕ) : Type 0 where
  pub before : List (List ℕ)
  pub line : List ℕ
  pub after : List (List ℕ)
  pub are_lines : AreLines bytes (before ++ line ∷ after)
  pub admitted : AreAdmitted before
  pub refused : ¬ AreAdmitted (before ++ line ∷ [])
  pub numbered : number ≡ length before + 1

-- every line is admitted, but the last one has no end
pub record IsUnended (bytes : List ℕ) : Type 0 where
  pub lines : List (List ℕ)
  pub are_lines : AreLines bytes lines
  pub admitted : AreAdmitted lines
  pub unended : ¬ AreEnded bytes lines

-- why the bytes are no Breakpad file; nothing where they are one
abbrev pub IsRefusal : List ℕ → Option Refused → Type 0
IsRefusal bytes (Some (Line number)) = IsFirstRefused bytes number
IsRefusal bytes (Some NoEnd) = IsUnended bytes
IsRefusal bytes (Some Empty) = bytes ≡ []
IsRefusal bytes None = (table : Table) × IsFile bytes table

-- a line that isn't admitted comes before an end that is missing
abbrev pub refusal_by : Option ℕ → Option (List (List ℕ)) → Option Refused
refusal_by (Some number) ended = Some (Line number)
refusal_by None None = Some NoEnd
refusal_by None (Some lines) = None

-- why the bytes are refused, found line by line. That it is so is a law of this crate.
unfoldable pub refusal_in : List ℕ → Option Refused
refusal_in [] = Some Empty
refusal_in (b ∷ bytes) = refusal_by (refused_from at_front 1 (all_lines (b ∷ bytes))) (ended_lines (b ∷ bytes))

-- what is found of bytes is why they are refused, and nothing else is
abbrev pub AreFound : Type 0
AreFound = (bytes : List ℕ) (why : Option Refused) → (refusal_in bytes ≡ why) ↔ IsRefusal bytes why
