use Rattle.std.proofs.Common.{◌≡◌, ℕ, ◌<◌, length}
use Rattle.std.specs.Prelude.{slice_index, slice_index_or}
use Rattle.bz_search.proofs.sweep.entries.Given as goal

-- the addresses so far stand with their indices
abbrev pub invariant-loop-index : goal.invariant-loop-index
invariant-loop-index l = record {
  entries : (k : ℕ) → k < l.index → slice_index_or l.order.items k (0, 0) ≡ (slice_index l.addrs k, k);
  count : length l.order.items ≡ l.index;
}
