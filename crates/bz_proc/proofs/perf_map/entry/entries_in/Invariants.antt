use Rattle.std.proofs.Common.{length, ◌+◌, ◌-◌}
use Rattle.bz_proc.proofs.PerfKeptLemmas.{IsSoFar}
use Rattle.bz_proc.proofs.perf_map.entry.entries_in.Given as goal

-- the functions of the lines before the place are kept
abbrev pub invariant-loop-place : goal.invariant-loop-place
invariant-loop-place l = IsSoFar l.bytes l.entries.items l.place

abbrev pub decreases-loop-place : goal.decreases-loop-place
decreases-loop-place l = length l.bytes + 1 - l.place
