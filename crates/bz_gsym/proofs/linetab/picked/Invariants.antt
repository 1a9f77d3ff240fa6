use Rattle.std.proofs.Common.{◌≡◌, None, length}
use Rattle.bz_gsym.specs.LineTable.{sought, states}
use Rattle.bz_gsym.proofs.linetab.picked.Given as goal

-- what is found from here on is what is found from the first operator on
abbrev pub invariant-loop-came : goal.invariant-loop-came
invariant-loop-came l = sought l.addr l.last l.row (states l.header l.row l.ops.left) ≡ sought l.addr None l.fn.first (states l.fn.header l.fn.first l.fn.ops.left)

abbrev pub decreases-loop-came : goal.decreases-loop-came
decreases-loop-came l = length l.ops.left
