use Rattle.std.proofs.Common.{rules, slice_index}
use Rattle.std.proofs.lemmas.List.Sorted.{All-permutation, Contains-permutation, IsNonDecreasingBy-from_sort_by_key}
use Rattle.bz_search.specs.Sweep.{IsEntry}
use Rattle.bz_search.proofs.SweepLemmas.{entry_at, entry_in}
use Rattle.bz_search.proofs.sweep.ordered.Goals as goal

pub returns-clause-entries : goal.returns-clause-entries
returns-clause-entries c =
    let e = c.in_ok-order.ensures in
    All-permutation (IsEntry c.args.addrs.now) c.in_ok-order.order.items _ c.sort_unstable_by_key.ensures.permutation
    (entry_at c.args.addrs.now c.in_ok-order.order.items e.count e.entries)

pub returns-clause-each : goal.returns-clause-each
returns-clause-each c k within =
    let e = c.in_ok-order.ensures in
    Contains-permutation c.in_ok-order.order.items _ (slice_index c.args.addrs.now k, k) c.sort_unstable_by_key.ensures.permutation
    (entry_in c.args.addrs.now c.in_ok-order.order.items e.count e.entries k within)

pub returns-clause-ascending : goal.returns-clause-ascending
returns-clause-ascending c = IsNonDecreasingBy-from_sort_by_key (λ e. e.0) _ c.sort_unstable_by_key.ensures.sorted (λ a r q k. search rules)
