use Rattle.std.proofs.Common.{ℕ, ◌<◌, ◌^◌, subst, arith, length}
use Rattle.bz_search.proofs.StartsLemmas.{batch_bound}
use Rattle.bz_search.proofs.sweep.nearest_each.Goals as goal

pub returns-then-swept-searched-clause-searched : goal.returns-then-swept-searched-clause-searched
returns-then-swept-searched-clause-searched g c p greatest =
    omega (arith, c.if-swept-searched.true, c.sweep.ensures.cost, batch_bound (length c.args.addrs.now) c.most_probes-most.result p (length c.args.table.now) (omega arith) greatest)

pub returns-else-swept-searched-clause-searched : goal.returns-else-swept-searched-clause-searched
returns-else-swept-searched-clause-searched g c p greatest =
    let m = c.most_probes-most.result in
    omega (arith, c.search_each.ensures.cost m (subst (λ (n : ℕ). n < 2 ^ m) c.len-count.ensures.value c.most_probes-most.ensures.enough), batch_bound (length c.args.addrs.now) m p (length c.args.table.now) (omega (arith, c.most_probes-most.ensures.needed)) greatest)
