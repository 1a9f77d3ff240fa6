use Rattle.std.proofs.Common.{◌++◌, ℕ, List, drop}
use Rattle.bz_gsym_layout.specs.Layout.{Tables, rows_bytes}
use Rattle.bz_gsym_layout.specs.Plan.{Line}
use Rattle.bz_gsym_layout.specs.InOrder.{NeverBefore}
use Rattle.bz_gsym_layout.specs.RowPass.{AreRowsOf}
use Rattle.bz_gsym_layout.proofs.RowTurns.{AreLeft}
use Rattle.bz_gsym_layout.proofs.rows.push_rows.Given as goal

-- what is written, with the rows that are left, is the whole
abbrev pub invariant-loop-row : goal.invariant-loop-row
invariant-loop-row l = record {
  low : NeverBefore l.addr (drop l.row-index l.rows);
  left : (t : Tables) (lines : List (ℕ × Line)) → AreRowsOf t lines l.rows →
      AreLeft t (drop l.row-index l.rows) l.out.items l.addr l.line (l.fn.out.items ++ rows_bytes t l.start 0 lines);
}
