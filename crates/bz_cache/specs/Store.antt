-- How the cache's maps read as its kept versions and its held paths.
use Rattle.std.specs.Prelude.{ℕ, List, map}
use Rattle.std.specs.BTreeMap.{BTreeMap}
use Rattle.std.specs.FinMap.{from_entries}
use Rattle.std.specs.String.{string_bytes}
use Rattle.std.specs.declared.string.String.{String}
use Rattle.bz_files.specs.declared.stamp.Stamp.{Stamp}
use Rattle.bz_cache.specs.declared.file_cache.versions.KeptVersion.{KeptVersion}
use Rattle.bz_cache.specs.declared.file_cache.paths.HeldPath.{HeldPath}
use Rattle.bz_cache.specs.Cache.{Kept, Paths, PathState}
use Rattle.bz_cache.specs.Counts.{CountedVersions}

-- the bytes of each version, by its stamp
abbrev pub kept_of : {T : Type 0} → (T → List ℕ) → BTreeMap Stamp (KeptVersion T) → Kept
kept_of bytes_of versions = from_entries (map (λ entry. (entry.0, bytes_of entry.1.version.value)) versions.entries)

-- the bytes and the count of each version, by its stamp
abbrev pub counted_of : {T : Type 0} → (T → List ℕ) → BTreeMap Stamp (KeptVersion T) → CountedVersions
counted_of bytes_of versions = from_entries (map (λ entry. (entry.0, record { bytes = bytes_of entry.1.version.value; paths = entry.1.paths })) versions.entries)

-- the state of a held path
abbrev pub path_state : HeldPath → PathState
path_state held = record { current = held.current; pinned = held.pinned; earlier = held.earlier.items }

-- the state of each path, by its bytes
abbrev pub paths_of : {A : Type 0} → BTreeMap (String A) HeldPath → Paths
paths_of paths = from_entries (map (λ entry. (string_bytes entry.0, path_state entry.1)) paths.entries)
