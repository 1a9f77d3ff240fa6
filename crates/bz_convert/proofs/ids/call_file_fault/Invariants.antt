use Rattle.std.proofs.Common.{◌≡◌, Some, map, drop}
use Rattle.bz_breakpad.specs.Lent.{inlinee_seen}
use Rattle.bz_breakpad_lines.specs.Reader.{table_in}
use Rattle.bz_breakpad_lines.specs.Table.{Table}
use Rattle.bz_convert.specs.Fault.{call_file_fault}
use Rattle.bz_convert.proofs.ids.call_file_fault.Given as goal

-- those so far show nothing
abbrev pub invariant-loop-call : goal.invariant-loop-call
invariant-loop-call l = (table : Table) → table_in l.ids ≡ Some table → call_file_fault table l.func (map inlinee_seen (drop l.call-index l.calls)) ≡ call_file_fault table l.func (map inlinee_seen l.calls)
