-- The line record at the front of a text ("Line records" of Breakpad's docs/symbol_files.md).
use Rattle.std.specs.Prelude.{◌≡◌, ◌≤◌, ◌==◌, List, ℕ, length, not}
use Rattle.std.specs.List.{prefix_len}
use Rattle.bz_base.specs.Byte.{line_feed}
use Rattle.bz_breakpad_lines.specs.LineStarts.{line_read}
use Rattle.bz_breakpad_lines.specs.Told.{line_seen}
use Rattle.bz_breakpad_lines.specs.declared.in_turn.NextLine.{NextLine}

-- the line record that the first line of the text is, and where that line ends
pub record IsNextLine (text : List ℕ) (next : NextLine) : Type 0 where
  -- the record; one of zeros where none is
  pub line : line_seen next.line ≡ line_read text 0
  -- how many bytes stand before the line's end
  pub end : next.end ≡ prefix_len (λ b. not (b == line_feed)) text
  pub within : next.end ≤ length text
