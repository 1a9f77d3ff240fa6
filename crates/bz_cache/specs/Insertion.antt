-- Taking in a version that the caller has, without reading its file: the answer, and the cache after
-- it.
use Rattle.std.specs.Prelude.{◌≡◌, ◌⊎◌, ℕ, List, Option, Some, None, IsSome, Result, Ok, Err}
use Rattle.std.specs.FinMap as map
use Rattle.bz_base.specs.declared.error.Error.{Error}
use Rattle.bz_base.specs.declared.error.Error.TheVariants as errors
use Rattle.bz_files.specs.declared.stamp.Stamp.{Stamp}
use Rattle.bz_files.specs.World.{World, Entry, Denied, Present, Told, entry_at}
use Rattle.bz_cache.specs.Cache.{Cache, Consistent}
use Rattle.bz_cache.specs.Format.{MayMiss}
use Rattle.bz_cache.specs.Look.{named}
use Rattle.bz_cache.specs.View.{fixed}

-- a version is taken in under its stamp, where none is kept under it
abbrev pub insertion_by_kept : Cache → List ℕ → List ℕ → Stamp → Option (List ℕ) → Result (Unit {0}) Error × Cache
insertion_by_kept cache path version stamp None = (Ok tt, named cache path stamp version)
insertion_by_kept cache path version stamp (Some kept) = (Err errors.AlreadyExists, cache)

-- a path that isn't fixed takes the version in under the stamp of what lies there
abbrev pub insertion_by_entry : Cache → List ℕ → List ℕ → Option Entry → Result (Unit {0}) Error × Cache
insertion_by_entry cache path version None = (Err errors.NotFound, cache)
insertion_by_entry cache path version (Some Denied) = (Err errors.PermissionDenied, cache)
insertion_by_entry cache path version (Some (Present stamp bytes)) = insertion_by_kept cache path version stamp (map.get cache.kept stamp)

-- a fixed path has its version already
abbrev pub insertion_by_fixed : Cache → List ℕ → List ℕ → Option Entry → Option Stamp → Result (Unit {0}) Error × Cache
insertion_by_fixed cache path version there (Some stamp) = (Err errors.AlreadyExists, cache)
insertion_by_fixed cache path version there None = insertion_by_entry cache path version there

-- the answer and the new cache where the version is taken in as that of the file at the path, and the
-- world has `there`
abbrev pub insertion : Cache → List ℕ → List ℕ → Option Entry → Result (Unit {0}) Error × Cache
insertion cache path version there = insertion_by_fixed cache path version there (fixed cache path)

-- a version is refused by one of the four of a look at a file, or where there is one already
abbrev pub MayKeepOut : Cache → List ℕ → Error → Type 0
MayKeepOut cache path errors.AlreadyExists = IsSome (fixed cache path) ⊎ ((stamp : Stamp) × IsSome (map.get cache.kept stamp))
MayKeepOut cache path e = MayMiss e

-- what a version that was taken in leaves: where it is told what lies at the path, the cache after its
-- insertion. Whatever is told, a consistent cache after an insertion by something that may lie there
pub record Inserts (test : List ℕ → Option Error) (old new : Cache) (path version : List ℕ) (in_view : Option World) : Type 0 where
  pub state : Told in_view (λ world. new ≡ (insertion old path version (entry_at world path)).1)
  pub untold : (there : Option Entry) × (insertion old path version there ≡ (Ok tt, new))
  pub consistent : Consistent test new
