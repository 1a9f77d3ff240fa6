use Rattle.std.proofs.Common.{◌≡◌, ℕ, ◌+◌, ◌<◌, ◌≤◌, length, None}
use Rattle.std.specs.Prelude.{slice_index, slice_index_or}
use Rattle.bz_search.specs.Starts.{IsAt}
use Rattle.bz_search.proofs.sweep.sweep_along.Given as goal

-- the entries so far have their places; the starts passed are below each address to come
abbrev pub invariant-loop-index : goal.invariant-loop-index
invariant-loop-index g l = record {
  within : l.gap.place ≤ length l.table;
  passed : (j k : ℕ) → l.index-index ≤ j → j < length l.order → k < l.gap.place → slice_index l.table k < (slice_index_or l.order j (0, 0)).0;
  found : (j : ℕ) → j < l.index-index → IsAt l.table (slice_index_or l.order j (0, 0)).0 (slice_index_or l.places (slice_index_or l.order j (0, 0)).1 None);
  count : length l.places ≡ length l.addrs;
  more : l.fn.steps ≤ l.steps;
  cost : l.steps ≤ l.fn.steps + l.index-index + l.gap.place;
}
