use Rattle.std.proofs.Common.{arith, length}
use Rattle.bz_search.proofs.StartsLemmas.{group_cost}
use Rattle.bz_search.proofs.sweep.search_each.Goals as goal

pub loop-alloc-preserved : goal.loop-alloc-preserved
loop-alloc-preserved g c =
    let i = c.loop-alloc.invariant in
    let group = c.in_ok-search_group.ensures in
    record {
      found = group.so_far;
      within = group.within;
      more = omega arith;
      cost = λ most enough. omega (arith, i.cost most enough, group.cost most enough, group_cost (length c.loop-alloc.places.items) (length c.search_group.new.places.items) most (omega (arith, group.further)));
    }

pub returns-in_err-search_group-clause-cost : goal.returns-in_err-search_group-clause-cost
returns-in_err-search_group-clause-cost g c most enough =
    let i = c.loop-alloc.invariant in
    omega (arith, i.cost most enough, c.search_group.ensures.cost_within most enough, group_cost (length c.loop-alloc.places.items) (length c.args.addrs.now) most i.within)
