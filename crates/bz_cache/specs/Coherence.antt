-- Coherence of a cache with a world: what lies anywhere with a kept stamp has the kept bytes
-- (docs/DEFINITIONS.md, bz_cache).
use Rattle.std.specs.Prelude.{◌≡◌, ℕ, List, Option, Some, Contains}
use Rattle.std.specs.FinMap as map
use Rattle.bz_files.specs.declared.stamp.Stamp.{Stamp}
use Rattle.bz_files.specs.World.{World, Entry, Present, entry_at}
use Rattle.bz_cache.specs.Cache.{Kept}

-- every path of the world that is present with a kept stamp has the kept bytes
abbrev pub Coherent : Kept → World → Type 0
Coherent kept world = (path : List ℕ) (stamp : Stamp) (bytes kept_bytes : List ℕ) → entry_at world path ≡ Some (Present stamp bytes) → map.get kept stamp ≡ Some kept_bytes → bytes ≡ kept_bytes

-- the kept versions cohere with each of the worlds
abbrev pub CoherentWithAll : Kept → List World → Type 0
CoherentWithAll kept worlds = (world : World) → Contains worlds world → Coherent kept world

-- if a file lies there, the version has its bytes
abbrev pub HasBytes : Option Entry → List ℕ → Type 0
HasBytes there version = (stamp : Stamp) (bytes : List ℕ) → there ≡ Some (Present stamp bytes) → bytes ≡ version
