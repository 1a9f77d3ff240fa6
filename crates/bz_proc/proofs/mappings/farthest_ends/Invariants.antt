use Rattle.std.proofs.Common.{◌≡◌, ◌++◌, map, drop}
use Rattle.bz_proc.specs.Maps.{mapping_of}
use Rattle.bz_proc.specs.Reach.{reached, reached_from}
use Rattle.bz_proc.proofs.mappings.farthest_ends.Given as goal

-- what was reached so far, in front of what the mappings that are left reach, is what all of them do
abbrev pub invariant-loop-entry : goal.invariant-loop-entry
invariant-loop-entry l = l.ends.items ++ reached_from l.greatest (map mapping_of (drop l.entry-index l.entries)) ≡ reached (map mapping_of l.entries)
