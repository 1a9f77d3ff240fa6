use Rattle.std.proofs.Common.{◌≡◌, ℕ, ◌+◌, ◌<◌, length, None}
use Rattle.std.specs.Prelude.{slice_index_or}
use Rattle.bz_search.specs.declared.abreast.Search.{Search}
use Rattle.bz_search.specs.Starts.{IsAt}
use Rattle.bz_search.proofs.abreast.push_found.Given as goal

-- the searches so far have their places, after those of earlier groups
abbrev pub invariant-loop-search : goal.invariant-loop-search
invariant-loop-search l = record {
  count : length l.places.items ≡ length l.fn.places.items + l.search-index;
  kept : (k : ℕ) → k < length l.fn.places.items → slice_index_or l.places.items k None ≡ slice_index_or l.fn.places.items k None;
  found : (k : ℕ) (default : Search) → k < l.search-index → IsAt l.table (slice_index_or l.searches k default).addr (slice_index_or l.places.items (length l.fn.places.items + k) None);
}
