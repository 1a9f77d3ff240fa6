use Rattle.std.proofs.Common.{◌+◌, ◌*◌, ◌^◌, ◌<◌, ◌≤◌}
use Rattle.bz_search.proofs.sweep.most_probes.Given as goal

-- what is left is the number halved so often
abbrev pub invariant-loop-left : goal.invariant-loop-left
invariant-loop-left l = record {
  enough : l.count < 2 ^ l.most * (l.left + 1);
  halved : 2 ^ l.most * l.left ≤ l.count;
  needed : 2 ^ l.most ≤ 2 * l.count + 1;
  few : l.most < 65;
}

abbrev pub decreases-loop-left : goal.decreases-loop-left
decreases-loop-left l = l.left
