use Rattle.std.proofs.Common.{◌-◌, ◌≡◌, ℕ, ◌+◌, ◌*◌, ◌^◌, ◌<◌, ◌≤◌, length}
use Rattle.std.specs.Prelude.{slice_index}
use Rattle.bz_search.specs.Starts.{NeverDescends}
use Rattle.bz_search.proofs.starts.nearest.Given as goal

-- the place lies from `low` up to `high`, whose neighbours' starts are known; each probe halves what is
-- left
abbrev pub invariant-loop-low : goal.invariant-loop-low
invariant-loop-low g l = record {
  ordered : l.low ≤ l.high;
  within : l.high ≤ length (g.T.Probe.starts l.table);
  sorted : NeverDescends (g.T.Probe.starts l.table);
  lower : (k : ℕ) → k < l.low → slice_index (g.T.Probe.starts l.table) k < l.addr;
  upper : (k : ℕ) → l.high ≤ k → k < length (g.T.Probe.starts l.table) → l.addr ≤ slice_index (g.T.Probe.starts l.table) k;
  below : 0 < l.low → l.below ≡ slice_index (g.T.Probe.starts l.table) (l.low - 1);
  above : l.high < length (g.T.Probe.starts l.table) → l.above ≡ slice_index (g.T.Probe.starts l.table) l.high;
  more : l.fn.steps ≤ l.steps;
  halved : 2 ^ (l.steps - l.fn.steps) * (l.high - l.low) ≤ length (g.T.Probe.starts l.table);
  few : 2 ^ (l.steps - l.fn.steps) ≤ 2 * length (g.T.Probe.starts l.table) + 1;
}

-- what is left to search
abbrev pub decreases-loop-low : goal.decreases-loop-low
decreases-loop-low g l = l.high - l.low
