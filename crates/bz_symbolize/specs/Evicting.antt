-- Forgetting what is kept: an ELF file, or what answers for a process.
use Rattle.std.specs.Prelude.{◌≡◌, Result, Ok}
use Rattle.bz_base.specs.declared.error.Error.{Error}
use Rattle.bz_files.specs.World.{World}
use Rattle.bz_cache.specs.Eviction.{evicted}
use Rattle.bz_process.specs.Forgetting.{without_path, without_process}
use Rattle.bz_symbolize.specs.History.{ChangesLead}
use Rattle.bz_symbolize.specs.Requests.{ToEvict, EvictElf, EvictProcess}
use Rattle.bz_symbolize.specs.State.{WellKept, WholeState}

-- what is left then. Of an ELF file its path is gone, and so is what a dispatcher gave for a mapped
-- file with this path. Of a process its mappings, its id and its perf map are gone
abbrev pub evicting : {D R : Type 0} → ToEvict → WholeState D R → WholeState D R
evicting (EvictElf path) whole = record { files = record whole.files { elf = evicted whole.files.elf path }; processes = without_path path whole.processes }
evicting (EvictProcess pid) whole = record whole { processes = without_process pid whole.processes }

-- all that forgetting promises
pub record Evicts {D R : Type 0} (asked : ToEvict) (result : Result (Unit {0}) Error) (old now : WholeState D R) : Type 0 where
  -- it is always answered, and this is left
  pub answer : result ≡ Ok tt
  pub state : now ≡ evicting asked old
  -- so the call stands as paths that are forgotten, in whatever world, in lists that keep versions
  -- coherent
  pub history : (world : World) → ChangesLead world old.files now.files old.processes.perf_maps now.processes.perf_maps
  pub caches : WellKept old.files → WellKept now.files
