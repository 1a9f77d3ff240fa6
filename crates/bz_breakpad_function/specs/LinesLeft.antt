-- The line records of a function that are still to come.
use Rattle.std.specs.Prelude.{List, take}
use Rattle.std.specs.List.{AllByRecursion}
use Rattle.bz_breakpad_lines.specs.LineStarts.{ReadsLine}
use Rattle.bz_breakpad_lines.specs.Table.{SourceLine}
use Rattle.bz_breakpad_table.specs.Kept.{kept_lines}
use Rattle.bz_breakpad_table.specs.LineRun.{IsRunFront, lines_in}
use Rattle.bz_breakpad_function.specs.declared.line_iter.LinesLeft.{LinesLeft}
use Rattle.bz_breakpad_function.specs.declared.line_iter.LinesLeft.TheVariants as left

-- those of the rest of a run, or those at the places that are left
abbrev pub lines_left : LinesLeft → List SourceLine
lines_left (left.Run text len) = lines_in (take len text.now)
lines_left (left.Listed bytes places) = kept_lines bytes.now places.now

-- the rest is a run, or at each of the places a line record is read
abbrev pub AreLeft : LinesLeft → Type 0
AreLeft (left.Run text len) = IsRunFront text.now len
AreLeft (left.Listed bytes places) = AllByRecursion (ReadsLine bytes.now) places.now
