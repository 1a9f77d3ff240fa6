use Rattle.std.proofs.Common.{◌≡◌, ℕ, ◌+◌, ◌-◌, ◌<◌, length}
use Rattle.std.specs.Prelude.{slice_index, slice_index_or}
use Rattle.bz_search.specs.declared.abreast.Search.{Search}
use Rattle.bz_search.specs.Abreast.{IsSearch}
use Rattle.bz_search.proofs.abreast.begun.Given as goal

-- the addresses so far have their searches
abbrev pub invariant-loop-index : goal.invariant-loop-index
invariant-loop-index l = record {
  searches : (k : ℕ) (default : Search) → k < l.index - l.from → IsSearch l.table (slice_index_or l.searches.items k default);
  addrs : (k : ℕ) (default : Search) → k < l.index - l.from → (slice_index_or l.searches.items k default).addr ≡ slice_index l.addrs (l.from + k);
  count : length l.searches.items ≡ l.index - l.from;
}
