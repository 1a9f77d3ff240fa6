-- The code's walk, at the end of a line, and the step that it makes over one line.
use Rattle.std.specs.Prelude.{◌≡◌, ◌≤◌, ◌+◌, ◌-◌, ℕ, false, List, ◌∷◌, length, drop, Option, Some, None}
use Rattle.bz_base.specs.Bind.{◌>>=◌}
use Rattle.bz_base.specs.Line.{ended_lines}
use Rattle.bz_base.specs.declared.error.Error.{Error}
use Rattle.bz_base.specs.declared.error.Error.TheVariants as errors
use Rattle.bz_breakpad_table.specs.Kept.{IsNestedTable, IsSoFar, TableFits, kept_table}
use Rattle.bz_breakpad_lines.specs.Line.{line_front}
use Rattle.bz_breakpad_lines.specs.Reader.{Reading, lines_read, reading_in, table_read}
use Rattle.bz_breakpad_lines.specs.Told.{context_told}
use Rattle.bz_breakpad_lines.specs.Contexts.Context.{InFunc}
use Rattle.bz_breakpad_lines.specs.declared.start_text.StartText.{StartText}
use Rattle.bz_breakpad_table.specs.declared.standing.LinesSoFar.TheVariants as sofar
use Rattle.bz_breakpad_table.specs.declared.walk.Walk.{Walk}
use Rattle.bz_breakpad_table.specs.declared.types.KeptTable.{KeptTable}

-- the line stands at a place in the bytes
pub record IsLineAt (bytes : List ℕ) (start : ℕ) (line : List ℕ) : Type 0 where
  pub within : start ≤ length bytes
  pub line_is : line_front (drop start bytes) ≡ line

-- what the walk has read is this reading
pub record IsWalked (bytes : List ℕ) (walk : Walk) (reading : Reading) : Type 0 where
  pub so_far : IsSoFar bytes walk.kept reading
  pub count_is : walk.count ≡ reading.count

-- what the walk gives of the further lines
abbrev pub walked_on : Walk → Reading → List (List ℕ) → Option Reading
walked_on walk reading lines = lines_read (context_told walk.context) walk.white_allowed reading lines

-- the walk after the line gives of the further lines what the walk before it gave of the line and them
pub record IsStep (bytes : List ℕ) (old new : Walk) (line : List ℕ) (reading : Reading) : Type 0 where
  pub next : Reading
  pub walked : IsWalked bytes new next
  pub same : (lines : List (List ℕ)) → walked_on old reading (line ∷ lines) ≡ walked_on new next lines

-- InvalidInput comes only where nothing is read of lines that begin with this one.
-- Else want of memory alone comes
abbrev pub IsRefused : Walk → List ℕ → Error → Type 0
IsRefused walk line errors.InvalidInput =
    (reading : Reading) → walk.count ≡ reading.count → (lines : List (List ℕ)) → walked_on walk reading (line ∷ lines) ≡ None
IsRefused walk line errors.OutOfMemory = Unit {0}
IsRefused walk line _ = ⊥

-- what is read of the lines, if there are any
abbrev pub lines_on : Walk → Reading → Option (List (List ℕ)) → Option Reading
lines_on walk reading lines = lines >>= walked_on walk reading

-- the walk has read the bytes up to the rest, and reads of the rest what is read of the bytes
pub record IsMidway (bytes rest : List ℕ) (walk : Walk) : Type 0 where
  pub reading : Reading
  pub walked : IsWalked bytes walk reading
  pub within : length rest ≤ length bytes
  pub rest_is : drop (length bytes - length rest) bytes ≡ rest
  pub left : lines_on walk reading (ended_lines rest) ≡ reading_in bytes
  pub few : walk.count ≤ length bytes - length rest

-- the walk has read the bytes
pub record HasRead (bytes : List ℕ) (walk : Walk) : Type 0 where
  pub reading : Reading
  pub walked : IsWalked bytes walk reading
  pub is : reading_in bytes ≡ Some reading

-- the table has what the walk has read, and every part is one of the bytes
pub record IsFinishedAs (bytes : List ℕ) (table : KeptTable) (reading : Reading) : Type 0 where
  pub is : IsNestedTable (table_read reading) (kept_table bytes table)
  pub fits : TableFits bytes table

abbrev pub IsFinished : List ℕ → Walk → KeptTable → Type 0
IsFinished bytes walk table = (reading : Reading) → IsWalked bytes walk reading → IsFinishedAs bytes table reading

-- the walk where the run is this one, and so many records have been read
abbrev pub running : Walk → ℕ → ℕ → StartText → ℕ → Walk
running walk from to last count = record walk {
  kept = record walk.kept { functions = record walk.kept.functions { lines = sofar.Run (record { from = from; to = to }) last } };
  count = count;
}

-- where a walk may end its run before the rest, it may end it before what is left,
-- so many records later
abbrev pub GoesOn : List ℕ → StartText → List ℕ → StartText → ℕ → Type 0
GoesOn rest start left last passed =
    (bytes : List ℕ) (walk : Walk) (from count : ℕ) → context_told walk.context ≡ InFunc → walk.white_allowed ≡ false →
    IsMidway bytes rest (running walk from (length bytes - length rest) start count) → IsMidway bytes left (running walk from (length bytes - length left) last (count + passed))
