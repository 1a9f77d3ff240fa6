-- Forgetting a process, and what a dispatcher said of the file at a path.
use Rattle.std.specs.Prelude.{ℕ, Bool, false, ◌||◌, not, List, Option, Some, None}
use Rattle.std.specs.List.{filter}
use Rattle.std.specs.Str.{bytes_eq}
use Rattle.bz_base.specs.declared.pid.Pid.{Pid}
use Rattle.bz_cache.specs.Cache.{Cache}
use Rattle.bz_cache.specs.Eviction.{evicted}
use Rattle.bz_cache.specs.InsertMap.{value_at, without}
use Rattle.bz_proc.specs.Maps.{Name, File, Component, name_of}
use Rattle.bz_process.specs.Dispatch.{DispatchAnswers}
use Rattle.bz_process.specs.Process.{pid_cmp}
use Rattle.bz_process.specs.Processes.{KeptProcesses}
use Rattle.bz_process.specs.Remembered.{Remembered}

-- the perf map of a process that is remembered is forgotten, at the path that is kept beside its id
abbrev pub without_perf_map : Cache → Option Remembered → Cache
without_perf_map perf_maps None = perf_maps
without_perf_map perf_maps (Some known) = evicted perf_maps known.perf_map

-- what is kept once a process is forgotten: its mappings, its id and its perf map are gone
abbrev pub without_process : {D R : Type 0} → Pid → KeptProcesses D R → KeptProcesses D R
without_process pid kept =
    record kept { perf_maps = without_perf_map kept.perf_maps (value_at pid_cmp kept.ids pid); ids = without pid_cmp kept.ids pid; mappings = without pid_cmp kept.mappings pid }

-- whether it is a mapped file with this path: its own, or the one that stands for the mapping
abbrev pub has_path : List ℕ → Name → Bool
has_path path (File maps_file symbolic_path) = bytes_eq maps_file path || bytes_eq symbolic_path path
has_path path (Component text) = false

-- the answers that aren't for a file with this path
abbrev pub answers_without : {R : Type 0} → List ℕ → DispatchAnswers R → DispatchAnswers R
answers_without path answers = filter (λ entry. not (has_path path (name_of entry.0))) answers

-- what is kept once those that are for such a file are forgotten
abbrev pub without_path : {D R : Type 0} → List ℕ → KeptProcesses D R → KeptProcesses D R
without_path path kept = record kept { answers = answers_without path kept.answers }
