use Rattle.std.proofs.Common.{arith, ℕ, ◌<◌, length, subst, sym, None, slice_index, slice_index_or}
use Rattle.bz_search.specs.Starts.{IsAt}
use Rattle.bz_search.proofs.SweepLemmas.{all_found, written_back}
use Rattle.bz_search.proofs.sweep.sweep.Goals as goal

pub returns-clause-found : goal.returns-clause-found
returns-clause-found g c k within =
    subst (λ l. IsAt c.args.table.now (slice_index c.args.addrs.now k) (slice_index_or l k None)) (sym (written_back _ c.sweep_along.new.places _ (omega arith)))
    (all_found c.args.table.now c.args.addrs.now c.in_ok-order.order.items c.in_ok-order.ensures.entries c.sweep_along.new.places c.in_ok-order.ensures.each
    (subst (λ l. (j : ℕ) → j < length l → IsAt c.args.table.now (slice_index_or l j (0, 0)).0 (slice_index_or c.sweep_along.new.places (slice_index_or l j (0, 0)).1 None)) c.deref.ensures.value c.sweep_along.ensures.found) k within)
