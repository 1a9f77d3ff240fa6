use Rattle.std.proofs.Common.{◌≡◌, true, length, IsSome}
use Rattle.std.specs.FinMap as map
use Rattle.bz_files.specs.declared.stamp.Stamp.{Stamp}
use Rattle.bz_cache.specs.Cache.{names}
use Rattle.bz_cache.specs.Counts.{released}
use Rattle.bz_cache.specs.Store.{counted_of, path_state}
use Rattle.bz_cache.proofs.file_cache.versions.release_all.Given as goal

-- what the path named, released from the first counts, is what it names still, released from these;
-- what it names still is kept
abbrev pub invariant-loop-stamp : goal.invariant-loop-stamp
invariant-loop-stamp g l = record {
  left : (s : Stamp) → released (names (path_state l.initial.held) s) (map.get (counted_of g.T.Version.bytes_of l.initial.versions) s)
      ≡ released (names (path_state l.held) s) (map.get (counted_of g.T.Version.bytes_of l.versions) s);
  kept : (s : Stamp) → names (path_state l.held) s ≡ true → IsSome (map.get (counted_of g.T.Version.bytes_of l.versions) s);
}

-- each turn takes out a stamp
abbrev pub decreases-loop-stamp : goal.decreases-loop-stamp
decreases-loop-stamp g l = length l.held.earlier.items
