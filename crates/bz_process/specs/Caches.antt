-- The files that answer for processes, and what is remembered of processes.
use Rattle.std.specs.Prelude.{List}
use Rattle.bz_base.specs.declared.pid.Pid.{Pid}
use Rattle.bz_cache.specs.Cache.{Cache}
use Rattle.bz_process.specs.Remembered.{Remembered}
use Rattle.bz_process.specs.declared.perf_maps.PerfMaps.{PerfMaps}

-- the ELF files, which are those of all sources; the perf maps; and what is remembered of each process
pub record ProcessCaches : Type 0 where
  pub elf : Cache
  pub perf_maps : Cache
  pub ids : List (Pid × Remembered)

-- the ELF files beside what is kept of perf maps
abbrev pub caches : Cache → PerfMaps → ProcessCaches
caches elf kept = record { elf = elf; perf_maps = kept.files; ids = kept.ids }
