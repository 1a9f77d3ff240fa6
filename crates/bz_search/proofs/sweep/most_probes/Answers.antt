use Rattle.std.proofs.Common.{arith}
use Rattle.bz_search.proofs.StartsLemmas.{halved_enough, halved_within, halved_needed, halved_few}
use Rattle.bz_search.proofs.sweep.most_probes.Goals as goal

pub loop-left-preserved : goal.loop-left-preserved
loop-left-preserved c = let i = c.loop-left.invariant in record {
  enough = halved_enough _ _ _ i.enough;
  halved = halved_within _ _ _ i.halved;
  needed = halved_needed _ _ c.loop-left.left (omega arith) i.halved;
  few = omega (arith, halved_few c.args.count c.loop-left.most c.loop-left.left (omega arith) i.halved (omega arith));
}
