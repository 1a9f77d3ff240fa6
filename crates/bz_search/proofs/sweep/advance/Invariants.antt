use Rattle.std.proofs.Common.{◌-◌, ◌≡◌, ℕ, ◌+◌, ◌<◌, ◌≤◌, length}
use Rattle.std.specs.Prelude.{slice_index}
use Rattle.bz_search.proofs.sweep.advance.Given as goal

-- the starts passed are below the address, and each took one probe
abbrev pub invariant-loop-gap : goal.invariant-loop-gap
invariant-loop-gap g l = record {
  within : l.gap.place ≤ length l.table;
  lower : (k : ℕ) → k < l.gap.place → slice_index l.table k < l.addr;
  more : l.fn.steps ≤ l.steps;
  cost : l.steps + l.fn.from.place ≡ l.fn.steps + l.gap.place;
}

-- the starts to come
abbrev pub decreases-loop-gap : goal.decreases-loop-gap
decreases-loop-gap g l = length l.table - l.gap.place
