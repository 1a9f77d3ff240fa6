use Rattle.std.proofs.Common.{◌≡◌, Some, map, drop}
use Rattle.std.specs.List.{list_any}
use Rattle.bz_breakpad_lines.specs.Reader.{table_in}
use Rattle.bz_breakpad_lines.specs.Table.{Table}
use Rattle.bz_convert.specs.Ids.{row_has_zero}
use Rattle.bz_convert.specs.Points.{row_seen}
use Rattle.bz_convert.proofs.ids.rows_have_zero.Given as goal

-- those so far show nothing
abbrev pub invariant-loop-row : goal.invariant-loop-row
invariant-loop-row l = (table : Table) → table_in l.ids ≡ Some table → list_any (row_has_zero table) (map row_seen (drop l.row-index l.rows)) ≡ list_any (row_has_zero table) (map row_seen l.rows)
