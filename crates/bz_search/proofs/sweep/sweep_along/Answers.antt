use Rattle.std.proofs.Common.{arith, subst}
use Rattle.std.proofs.Math.ListN.{length-set}
use Rattle.bz_search.specs.Starts.{IsAt}
use Rattle.bz_search.proofs.SweepLemmas.{so_far_more}
use Rattle.bz_search.proofs.sweep.sweep_along.Goals as goal

pub loop-index-preserved : goal.loop-index-preserved
loop-index-preserved g c =
    let i = c.loop-index.invariant in
    let here = c.requires.entries c.loop-index.index-index (0, 0) c.loop-index-test.true in
    record {
      within = c.advance-gap.ensures.gap.within;
      passed = λ j k after within passed. omega (arith, here.1, c.advance-gap.ensures.gap.lower k passed, c.requires.ascending c.loop-index.index-index j (0, 0) (omega arith) within);
      found = so_far_more c.args.table.now c.args.addrs.now c.args.order.now c.requires.entries c.loop-index.index-index c.loop-index.places c.placed.result c.loop-index-test.true i.count i.found
          (subst (λ a. IsAt c.args.table.now a c.placed.result) here.1 c.placed.ensures);
      count = rw length-set i.count;
      more = omega arith;
      cost = omega arith;
    }
