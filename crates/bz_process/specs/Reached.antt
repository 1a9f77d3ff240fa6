-- What a call on a process leaves of what is kept, whatever it answers. Versions cohere, and each path
-- and each process is as it was, or as what lies there tells.
use Rattle.std.specs.Prelude.{◌≡◌, ◌⊎◌, ℕ, List, Option, Some, None, Ok}
use Rattle.std.specs.FinMap as map
use Rattle.bz_base.specs.declared.pid.Pid.{Pid}
use Rattle.bz_files.specs.declared.stamp.Stamp.{Stamp}
use Rattle.bz_files.specs.World.{World, Present, entry_at}
use Rattle.bz_cache.specs.Cache.{Cache}
use Rattle.bz_cache.specs.Coherence.{CoherentWithAll}
use Rattle.bz_cache.specs.InsertMap.{value_at}
use Rattle.bz_cache.specs.Look.{moved}
use Rattle.bz_cache.specs.View.{fixed}
use Rattle.bz_proc.specs.PerfId.{ns_tgid_of, status_path}
use Rattle.bz_process.specs.Caches.{ProcessCaches}
use Rattle.bz_process.specs.Process.{pid_cmp, remembered}
use Rattle.bz_process.specs.Remembered.{Remembered}

-- the kept ELF files and perf maps cohere with each of the worlds: equal stamps mean equal bytes
pub record CohereWithAll (kept : ProcessCaches) (worlds : List World) : Type 0 where
  pub elf : CoherentWithAll kept.elf.kept worlds
  pub perf_maps : CoherentWithAll kept.perf_maps.kept worlds

-- a path that wasn't fixed is as after its look: it is seen with the stamp of what lies there
pub record IsSeen (world : World) (path : List ℕ) (old now : Cache) : Type 0 where
  pub stamp : Stamp
  pub bytes : List ℕ
  pub not_fixed : fixed old path ≡ None
  pub present : entry_at world path ≡ Some (Present stamp bytes)
  pub state : map.get now.paths path ≡ Some (moved stamp (map.get old.paths path))

-- the path is as it was, or as after its look
abbrev pub IsAsLooked : World → List ℕ → Cache → Cache → Type 0
IsAsLooked world path old now = (map.get now.paths path ≡ map.get old.paths path) ⊎ IsSeen world path old now

-- nothing but looks at what the world has lies between two caches
pub record IsLookedOver (world : World) (old now : Cache) : Type 0 where
  -- each path is as it was, or as after its look
  pub paths : (path : List ℕ) → IsAsLooked world path old now
  -- each version that was kept is kept, and any other that is kept lies at some path
  pub keeps : (stamp : Stamp) (bytes : List ℕ) → map.get old.kept stamp ≡ Some bytes → map.get now.kept stamp ≡ Some bytes
  pub adds : (stamp : Stamp) (bytes : List ℕ) → map.get now.kept stamp ≡ Some bytes →
      (map.get old.kept stamp ≡ Some bytes) ⊎ ((path : List ℕ) × (entry_at world path ≡ Some (Present stamp bytes)))
  pub reload : now.reload ≡ old.reload

-- nothing was remembered of the process, and what its present status tells is remembered now
pub record IsToldAnew (own : ℕ) (world : World) (pid : Pid) (old now : Option Remembered) : Type 0 where
  pub id : ℕ
  pub unknown : old ≡ None
  pub told : ns_tgid_of pid own (entry_at world (status_path pid)) ≡ Ok id
  pub known : now ≡ Some (remembered pid own id)

-- what is remembered of the process is what it was, or what its present status tells
abbrev pub IsAsTold : ℕ → World → Pid → Option Remembered → Option Remembered → Type 0
IsAsTold own world pid old now = (now ≡ old) ⊎ IsToldAnew own world pid old now

-- nothing but looks at files and at statuses lies between two states of what is kept
pub record AreLookedOver (own : ℕ) (world : World) (old now : ProcessCaches) : Type 0 where
  pub elf : IsLookedOver world old.elf now.elf
  pub perf_maps : IsLookedOver world old.perf_maps now.perf_maps
  pub ids : (pid : Pid) → IsAsTold own world pid (value_at pid_cmp old.ids pid) (value_at pid_cmp now.ids pid)
