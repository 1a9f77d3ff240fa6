-- Forgetting a path, and with it the versions that no other path names.
use Rattle.std.specs.Prelude.{ℕ, Bool, not, List}
use Rattle.std.specs.List.{list_any}
use Rattle.std.specs.FinMap as map
use Rattle.bz_files.specs.declared.stamp.Stamp.{Stamp}
use Rattle.bz_cache.specs.Cache.{Cache, Paths, names}

-- whether some path names the stamp
abbrev pub is_named : Paths → Stamp → Bool
is_named paths stamp = list_any (λ entry. names entry.1 stamp) (map.entries paths)

-- the cache once the path is forgotten: only versions that another path names stay kept
abbrev pub evicted : Cache → List ℕ → Cache
evicted cache path = record { reload = cache.reload; kept = map.retain_keys cache.kept (is_named (map.remove cache.paths path)); paths = map.remove cache.paths path }

-- whether some kept version is named by no other path
abbrev pub evicts : Cache → List ℕ → Bool
evicts cache path = list_any (λ entry. not (is_named (map.remove cache.paths path) entry.0)) (map.entries cache.kept)
