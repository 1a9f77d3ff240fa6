use Rattle.std.proofs.Common.{◌≡◌, Some, map, drop}
use Rattle.bz_breakpad_lines.specs.Told.{line_seen}
use Rattle.bz_breakpad_lines.specs.Reader.{table_in}
use Rattle.bz_breakpad_lines.specs.Table.{Table}
use Rattle.bz_convert.specs.Fault.{line_file_fault}
use Rattle.bz_convert.proofs.ids.line_file_fault.Given as goal

-- those so far show nothing
abbrev pub invariant-loop-line : goal.invariant-loop-line
invariant-loop-line l = (table : Table) → table_in l.ids ≡ Some table → line_file_fault table l.func (map line_seen (drop l.line-index l.lines)) ≡ line_file_fault table l.func (map line_seen l.lines)
