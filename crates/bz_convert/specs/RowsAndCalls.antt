-- The rows and inlined calls that were found of a function.
use Rattle.std.specs.Prelude.{◌≡◌, [], map, if◌then◌else◌}
use Rattle.bz_breakpad.specs.Lent.{inlinee_seen}
use Rattle.bz_breakpad_function.specs.InOrder.{calls_in_order}
use Rattle.bz_breakpad_lines.specs.Table.{Function}
use Rattle.bz_convert.specs.Plan.{changes, is_checked}
use Rattle.bz_convert.specs.Points.{row_seen}
use Rattle.bz_convert.specs.declared.fault.RowsAndCalls.{RowsAndCalls}

-- the rows are the function's, and the calls are its inlined calls by depth and start; one whose end
-- passes 64 bits has neither
pub record AreRowsAndCalls (f : Function) (found : RowsAndCalls) : Type 0 where
  pub rows : map row_seen found.rows.items ≡ changes f
  pub calls : map inlinee_seen found.calls.items ≡ (if is_checked f then calls_in_order f else [])
