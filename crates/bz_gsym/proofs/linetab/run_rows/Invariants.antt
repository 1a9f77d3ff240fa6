use Rattle.std.proofs.Common.{◌≡◌, ◌≤◌, Some, length}
use Rattle.bz_gsym.specs.LineTable.{sought, states}
use Rattle.bz_gsym.proofs.linetab.run_rows.Given as goal

-- what is found from here on is what is found from the first row on
abbrev pub invariant-loop-state : goal.invariant-loop-state
invariant-loop-state l = record {
  found :
      sought l.addr (Some l.row) l.row (states l.header l.row l.ops.left)
      ≡ sought l.addr (Some l.fn.row) l.fn.row (states l.header l.fn.row l.fn.ops.left);
  within : length l.ops.left ≤ length l.fn.ops.left;
}

abbrev pub decreases-loop-state : goal.decreases-loop-state
decreases-loop-state l = length l.ops.left
