-- What forgetting promises, from what forgetting a path and a process do.
use Rattle.std.proofs.Common.{◌≡◌, ℕ, List, [], ◌∷◌, Option, Some, None, Ok, inl, inr, refl}
use Rattle.bz_base.specs.declared.pid.Pid.{Pid}
use Rattle.bz_files.specs.World.{World}
use Rattle.bz_cache.specs.Cache.{Cache}
use Rattle.bz_cache.specs.Eviction.{evicted}
use Rattle.bz_cache.specs.InsertMap.{value_at}
use Rattle.bz_cache.proofs.Evicting.{consistent_evicted}
use Rattle.bz_elf.specs.Format as elf
use Rattle.bz_process.specs.Forgetting.{without_path, without_perf_map, without_process}
use Rattle.bz_process.specs.Process.{pid_cmp}
use Rattle.bz_process.specs.Processes.{KeptProcesses}
use Rattle.bz_process.specs.Remembered.{Remembered}
use Rattle.bz_symbolize.specs.Evicting.{Evicts, evicting}
use Rattle.bz_symbolize.specs.History.{ForgetElf, ForgetPerfMap, ChangesLead}
use Rattle.bz_symbolize.specs.Requests.{ToEvict, EvictElf, EvictProcess}
use Rattle.bz_symbolize.specs.State.{State, WellKept, WholeState}

-- an ELF file that is forgotten leaves the files well kept
pub well_forgotten : (state : State) (path : List ℕ) → WellKept state → WellKept (record state { elf = evicted state.elf path })
well_forgotten state path well = record {
  breakpad = well.breakpad;
  gsym = well.gsym;
  elf = record { consistent = consistent_evicted elf.format_test state.elf path well.elf.consistent; reload = well.elf.reload };
}

-- forgetting a perf map leaves whether they are looked at anew
pub reload_without : (perf_maps : Cache) (known : Option Remembered) → (without_perf_map perf_maps known).reload ≡ perf_maps.reload
reload_without perf_maps None = refl
reload_without perf_maps (Some known) = refl

-- the perf map of a process that is remembered is forgotten
perf_map_leads : (world : World) (state : State) (perf_maps : Cache) (known : Option Remembered) → ChangesLead world state state perf_maps (without_perf_map perf_maps known)
perf_map_leads world state perf_maps None = record { calls = []; are_of_kind = tt; files = refl; perf_maps = refl }
perf_map_leads world state perf_maps (Some known) = record {
  calls = ForgetPerfMap known.perf_map ∷ [];
  are_of_kind = (tt, tt);
  files = (state, inl refl, refl);
  perf_maps = (evicted perf_maps known.perf_map, inr refl, refl);
}

module _ {D R : Type 0} (old : WholeState D R) where
  evicting_leads : (asked : ToEvict) (world : World) → ChangesLead world old.files (evicting asked old).files old.processes.perf_maps (evicting asked old).processes.perf_maps
  evicting_leads (EvictElf path) world = record {
    calls = ForgetElf path ∷ [];
    are_of_kind = (tt, tt);
    files = (record old.files { elf = evicted old.files.elf path }, inr refl, refl);
    perf_maps = (old.processes.perf_maps, inl refl, refl);
  }
  evicting_leads (EvictProcess pid) world = perf_map_leads world old.files old.processes.perf_maps (value_at pid_cmp old.processes.ids pid)

  evicting_well : (asked : ToEvict) → WellKept old.files → WellKept (evicting asked old).files
  evicting_well (EvictElf path) well = well_forgotten old.files path well
  evicting_well (EvictProcess pid) well = well

  evicts : (asked : ToEvict) → Evicts asked (Ok tt) old (evicting asked old)
  evicts asked = record { answer = refl; state = refl; history = evicting_leads asked; caches = evicting_well asked }

-- the same by what the parts leave
module _ {D R : Type 0} (old now : KeptProcesses D R) where
  pub elf_forgotten : (path : List ℕ) (state left : State) → left ≡ record state { elf = evicted state.elf path } → now ≡ without_path path old →
      Evicts (EvictElf path) (Ok tt) (record { files = state; processes = old }) (record { files = left; processes = now })
  elf_forgotten path state left files_are processes_are = rw (files_are, processes_are) (evicts (record { files = state; processes = old }) (EvictElf path))

  pub process_forgotten : (pid : Pid) (state : State) → now ≡ without_process pid old →
      Evicts (EvictProcess pid) (Ok tt) (record { files = state; processes = old }) (record { files = state; processes = now })
  process_forgotten pid state processes_are = rw processes_are (evicts (record { files = state; processes = old }) (EvictProcess pid))
