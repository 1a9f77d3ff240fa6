use Rattle.std.proofs.Common.{◌<◌, ◌≤◌, ℕ}
use Rattle.std.specs.Prelude.{slice_index}
use Rattle.bz_breakpad_table.specs.Publics.{starts_kept}
use Rattle.bz_breakpad_table.proofs.publics.ascend.Given as goal

-- the starts so far never descend, and none lies above the last one
abbrev pub invariant-loop-public : goal.invariant-loop-public
invariant-loop-public l = record {
  below : (k : ℕ) → k < l.public-index → slice_index (starts_kept l.publics) k ≤ l.last;
  up : (j k : ℕ) → j ≤ k → k < l.public-index → slice_index (starts_kept l.publics) j ≤ slice_index (starts_kept l.publics) k;
}
