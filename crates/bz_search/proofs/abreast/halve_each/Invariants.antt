use Rattle.std.proofs.Common.{◌≡◌, ℕ, ◌+◌, ◌<◌, ◌≤◌}
use Rattle.std.specs.Prelude.{slice_index_or}
use Rattle.bz_search.specs.declared.abreast.Search.{Search}
use Rattle.bz_search.specs.Abreast.{Halves}
use Rattle.bz_search.proofs.abreast.halve_each.Given as goal

-- the searches so far have had their probe, and the others are as they were
abbrev pub invariant-loop-search : goal.invariant-loop-search
invariant-loop-search g l = record {
  halves : (k : ℕ) (default : Search) → k < l.search-index → Halves l.table (slice_index_or l.fn.searches k default) (slice_index_or l.searches k default);
  kept : (k : ℕ) (default : Search) → l.search-index ≤ k → slice_index_or l.searches k default ≡ slice_index_or l.fn.searches k default;
  more : l.fn.steps ≤ l.steps;
  cost : l.steps ≤ l.fn.steps + l.search-index;
}
