-- Line records that are read quickly: where their fields end, and which of them go on a run.
use Rattle.std.specs.Prelude.{◌≡◌, ◌+◌, ◌<◌, ◌≤◌, ℕ, List, length, drop, Some, IfSome}
use Rattle.bz_breakpad_lines.specs.Form.{Value}
use Rattle.bz_breakpad_lines.specs.LineStarts.{IsStartText}
use Rattle.bz_breakpad_lines.specs.Quick.{IsFormLine}
use Rattle.bz_breakpad_lines.specs.Records.{LINE}
use Rattle.bz_breakpad_lines.specs.Stops.{AreDigits, AreStops, number_between}
use Rattle.bz_breakpad_lines.specs.declared.line.LineEnds.{LineEnds}
use Rattle.bz_breakpad_lines.specs.declared.line.QuickLine.{QuickLine}
use Rattle.bz_breakpad_lines.specs.declared.on_run.RunLine.{RunLine}
use Rattle.bz_breakpad_lines.specs.declared.start_text.StartText.{StartText}

-- the digits of a line record's fields end there, of which none has more than eight
pub record AreLineEnds (text : List ℕ) (start : ℕ) (ends : LineEnds) : Type 0 where
  pub of_start : AreDigits 16 8 text 0 start
  pub of_size : AreDigits 16 8 text (start + 1) ends.size
  pub of_line : AreDigits 10 8 text (ends.size + 1) ends.line
  pub of_file : AreDigits 10 8 text (ends.line + 1) ends.file

-- what the fields tell that end there
abbrev pub line_between : List ℕ → ℕ → LineEnds → Value LINE
line_between text start ends = (
  number_between 16 text 0 start,
  (
    number_between 16 text (start + 1) ends.size,
    (
      number_between 10 text (ends.size + 1) ends.line,
      (number_between 10 text (ends.line + 1) ends.file, tt),
    ),
  ),
)

-- the text begins with a line record: its length with its line feed, and perhaps the text of its start,
-- are these
pub record IsQuickLine (text : List ℕ) (found : QuickLine) : Type 0 where
  pub value : Value LINE
  pub form : IsFormLine LINE text value (drop found.len text)
  pub length_is : length form.line + 1 ≡ found.len
  pub start_is : IfSome found.start (IsStartText value.0)

-- the text begins with a line record that starts after the one whose start has this text
pub record IsOnRun (text : List ℕ) (last : StartText) (next : RunLine) : Type 0 where
  pub quick : IsQuickLine text (record { len = next.len; start = Some next.start })
  pub above : (before start : ℕ) → IsStartText before last → IsStartText start next.start → before < start
  pub digits : next.start.digits ≡ last.digits
  pub positive : 0 < next.len
  pub within : next.len ≤ length text
  pub stops : AreStops (drop next.len text) next.stops
