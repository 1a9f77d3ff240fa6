-- Runs: texts whose lines are line records (Breakpad's docs/symbol_files.md).
-- Each record of a run starts after the one before it.
use Rattle.std.specs.Prelude.{◌≡◌, ◌<◌, ◌≤◌, ◌-◌, ℕ, List, [], ◌∷◌, ◌++◌, length, take, drop, map, slice_index, IsSome}
use Rattle.std.specs.List.{AllByRecursion, filter_map}
use Rattle.bz_base.specs.Byte.{line_feed}
use Rattle.bz_base.specs.Line.{all_lines}
use Rattle.bz_breakpad_lines.specs.Line.{line_in}
use Rattle.bz_breakpad_lines.specs.LineStarts.{AscendTo, StrictlyAscends}
use Rattle.bz_breakpad_lines.specs.Table.{SourceLine}
use Rattle.bz_breakpad_lines.specs.declared.start_text.StartText.{StartText}

-- the line records that the lines of a text are
abbrev pub lines_in : List ℕ → List SourceLine
lines_in text = filter_map line_in (all_lines text)

-- where they start
abbrev pub starts_in : List ℕ → List ℕ
starts_in text = map (λ l. l.start) (lines_in text)

-- each line of the text is a line record
abbrev pub AreLineRecords : List ℕ → Type 0
AreLineRecords text = AllByRecursion (λ line. IsSome (line_in line)) (all_lines text)

-- and each starts after the one before it
pub record IsLineRun (text : List ℕ) : Type 0 where
  pub read : AreLineRecords text
  pub ascend : StrictlyAscends (starts_in text)

-- the last line of the text has its line feed, if it has lines
abbrev pub HasLastFeed : List ℕ → Type 0
HasLastFeed text = 0 < length text → slice_index text (length text - 1) ≡ line_feed

-- a run that may go on: its last line has its end, and of the last start the text is known
pub record IsOpenRun (text : List ℕ) (last : StartText) : Type 0 where
  pub read : AreLineRecords text
  pub starts : AscendTo (starts_in text) last
  pub front : List ℕ
  pub ends : text ≡ front ++ line_feed ∷ []

-- a line begins at a place within the text: a line feed stands before it
pub record IsCut (text : List ℕ) (cut : ℕ) : Type 0 where
  pub positive : 0 < cut
  pub within : cut < length text
  pub behind : slice_index text (cut - 1) ≡ line_feed

-- so many bytes at the front of the text are a run, and each of its lines is the same in the whole text
pub record IsRunFront (text : List ℕ) (len : ℕ) : Type 0 where
  pub within : len ≤ length text
  pub run : IsLineRun (take len text)
  pub same : (place : ℕ) → place < len → line_in (drop place (take len text)) ≡ line_in (drop place text)
