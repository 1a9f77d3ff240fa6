use Rattle.std.proofs.Common.{ℕ, ◌+◌, ◌-◌, ◌*◌, ◌^◌, ◌<◌, ◌≤◌, length}
use Rattle.bz_search.specs.Starts.{AreFoundSoFar}
use Rattle.bz_search.proofs.sweep.search_each.Given as goal

-- the addresses of the groups so far have their places, each by one search
abbrev pub invariant-loop-alloc : goal.invariant-loop-alloc
invariant-loop-alloc g l = record {
  found : AreFoundSoFar l.table l.addrs l.places.items;
  within : length l.places.items ≤ length l.addrs;
  more : l.fn.steps ≤ l.steps;
  cost : (most : ℕ) → length l.table < 2 ^ most → l.steps ≤ l.fn.steps + length l.places.items * most;
}

-- the addresses to come
abbrev pub decreases-loop-alloc : goal.decreases-loop-alloc
decreases-loop-alloc g l = length l.addrs - length l.places.items
