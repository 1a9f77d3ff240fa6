-- How many paths name a kept stamp.
use Rattle.std.specs.Prelude.{◌≡◌, ℕ, ◌+◌, ◌-◌, Bool, true, false, nat_le, cond, List, length, Option, Some, None}
use Rattle.std.specs.List.{filter}
use Rattle.std.specs.Option.{option_map_or}
use Rattle.std.specs.FinMap.{FinMap}
use Rattle.std.specs.FinMap as map
use Rattle.bz_files.specs.declared.stamp.Stamp.{Stamp}
use Rattle.bz_cache.specs.Cache.{Paths, PathState, names, stamp_cmp}

-- whether the path names the stamp, if it is held
abbrev pub names_at : Option PathState → Stamp → Bool
names_at state stamp = option_map_or (λ held. names held stamp) state false

-- how many paths name the stamp, each counted once
abbrev pub naming_path_count : Paths → Stamp → ℕ
naming_path_count paths stamp = length (filter (λ entry. names entry.1 stamp) (map.entries paths))

-- a kept version: its bytes, and a count of paths
pub record Counted : Type 0 where
  pub bytes : List ℕ
  pub paths : ℕ

-- the kept versions with their counts, by their stamps
abbrev pub CountedVersions : Type 0
CountedVersions = FinMap stamp_cmp Counted

-- the count of each kept version is that of the paths that name its stamp
abbrev pub HasCounts : Paths → CountedVersions → Type 0
HasCounts paths versions = (stamp : Stamp) (version : Counted) → map.get versions stamp ≡ Some version → version.paths ≡ naming_path_count paths stamp

-- the version with one path more, and with one path fewer
abbrev pub one_more : Counted → Counted
one_more version = record version { paths = version.paths + 1 }

abbrev pub one_fewer : Counted → Counted
one_fewer version = record version { paths = version.paths - 1 }

-- the version at a stamp, once a path that named the stamp, or didn't, is gone: it goes with the last
-- path
abbrev pub released : Bool → Option Counted → Option Counted
released false version = version
released true None = None
released true (Some version) = cond (nat_le version.paths 1) None (Some (one_fewer version))
