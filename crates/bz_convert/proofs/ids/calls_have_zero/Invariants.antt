use Rattle.std.proofs.Common.{◌≡◌, Some, map, drop}
use Rattle.std.specs.List.{list_any}
use Rattle.bz_breakpad.specs.Lent.{inlinee_seen}
use Rattle.bz_breakpad_lines.specs.Reader.{table_in}
use Rattle.bz_breakpad_lines.specs.Table.{Table}
use Rattle.bz_convert.specs.Ids.{call_has_zero, sized_with}
use Rattle.bz_convert.proofs.ids.calls_have_zero.Given as goal

-- those so far show nothing
abbrev pub invariant-loop-call : goal.invariant-loop-call
invariant-loop-call l = (table : Table) → table_in l.ids ≡ Some table → list_any (sized_with (call_has_zero table)) (map inlinee_seen (drop l.call-index l.calls)) ≡ list_any (sized_with (call_has_zero table)) (map inlinee_seen l.calls)
