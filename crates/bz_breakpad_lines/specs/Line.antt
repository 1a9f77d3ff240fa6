-- The line record that begins at a place in a text ("Line records" of docs/symbol_files.md among
-- Breakpad's sources).
use Rattle.std.specs.Prelude.{◌≡◌, ◌++◌, ℕ, not, ◌==◌, List, take, Option, option_map}
use Rattle.std.specs.List.{prefix_len}
use Rattle.bz_base.specs.Bind.{◌>>=◌}
use Rattle.bz_base.specs.Byte.{line_feed}
use Rattle.bz_breakpad_lines.specs.Choice.{body_at}
use Rattle.bz_breakpad_lines.specs.Form.{Value}
use Rattle.bz_breakpad_lines.specs.Reads.{form_at}
use Rattle.bz_breakpad_lines.specs.Records.{LINE}
use Rattle.bz_breakpad_lines.specs.Table.{SourceLine}

-- the body of a record ends with the name
abbrev pub EndsWith : List ℕ → List ℕ → Type 0
EndsWith body name = (front : List ℕ) × (body ≡ front ++ name)

-- the text before the first line feed
abbrev pub line_front : List ℕ → List ℕ
line_front text = take (prefix_len (λ b. not (b == line_feed)) text) text

abbrev pub source_line : Value LINE → SourceLine
source_line line = record { start = line.0; size = line.1.0; line = line.1.1.0; file = line.1.1.1.0 }

-- the line record that the first line of the text is
abbrev pub line_in : List ℕ → Option SourceLine
line_in text = option_map source_line (body_at (line_front text) >>= form_at LINE)
