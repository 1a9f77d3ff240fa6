use Rattle.std.proofs.Common.{◌+◌, ◌-◌, ◌<◌, ◌≤◌, length}
use Rattle.bz_canon.specs.CanonicalRun.{AreCanonical}
use Rattle.bz_canon.proofs.canonical_run.are_canonical.Given as goal

-- the bytes so far are canonical, and the two after them
abbrev pub invariant-loop-place : goal.invariant-loop-place
invariant-loop-place l = record {
  within : l.place ≤ length l.text;
  shown : 0 < l.place → AreCanonical l.text (l.place + 2);
}

abbrev pub decreases-loop-place : goal.decreases-loop-place
decreases-loop-place l = length l.text - l.place
