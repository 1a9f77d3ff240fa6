-- What the steps of a look do, each by the answer and the cache that are expected of it for what may
-- lie at the path.
use Rattle.std.specs.Prelude.{◌≡◌, ℕ, Bool, false, List, Option, Some, Result, Ok, IfOk, OnOk, OnErr}
use Rattle.bz_base.specs.declared.error.Error.{Error}
use Rattle.bz_files.specs.declared.files.Files.{Ghosts}
use Rattle.bz_files.specs.declared.stamp.Stamp.{Stamp}
use Rattle.bz_files.specs.Looked.{Faulted, Looked, ReadsOne}
use Rattle.bz_files.specs.World.{World, Entry, Told, in_view, entry_at}
use Rattle.bz_cache.specs.Cache.{Cache, Consistent, current_of}
use Rattle.bz_cache.specs.Look.{opens_after}
use Rattle.bz_cache.specs.View.{bytes_at}

-- what a step that gives the stamp of a version leaves of the cache
pub record LeavesCache (test : List ℕ → Option Error) (expected : Option Entry → Result (List ℕ) Error × Cache) (path : List ℕ) (result : Result Stamp Error)
    (old new : Cache) (in_view : Option World) : Type 0 where
  -- where it is told what lies at the path, the cache that is expected; after a refusal the one that
  -- was
  pub told : Told in_view (λ world. OnOk result (new ≡ (expected (entry_at world path)).1))
  pub refused : OnErr result (new ≡ old)
  -- whatever is told, the stamp is the path's current one, and the cache is the one that is expected
  -- for something
  pub current : IfOk result (λ stamp. current_of new path ≡ Some stamp)
  pub untold : IfOk result (λ stamp. (there : Option Entry) × (expected there ≡ (Ok (bytes_at new stamp), new)))
  pub consistent : OnOk result (Consistent test new)

-- how many files a call that looks at the path reads, by whether it has to read what lies there
pub record ReadsAt {A X : Type 0} (files : Ghosts X) (opens : Option Entry → Bool) (path : List ℕ) (result : Result A Error) (before after : X) : Type 0 where
  -- an answered call reads the file exactly where it has to
  pub opened : Told (in_view (files.worlds before)) (λ world. OnOk result (files.opens after ≡ opens_after (opens (entry_at world path)) (files.opens before)))
  -- answered or not, it reads none where it needn't
  pub spared : Told (in_view (files.worlds before)) (λ world. opens (entry_at world path) ≡ false → files.opens after ≡ files.opens before)
  -- whatever is told, it reads one at most
  pub most : ReadsOne files before after

-- what a step does to the files, by whether it has to read what lies at the path
pub record ReadsFile {X : Type 0} (files : Ghosts X) (opens : Option Entry → Bool) (path : List ℕ) (result : Result Stamp Error) (before after : X) : Type 0 where
  pub reads : ReadsAt files opens path result before after
  pub looked : Looked files before after (Faulted result)
