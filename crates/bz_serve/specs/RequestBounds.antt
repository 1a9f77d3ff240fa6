-- How many files a request reads at most. A file isn't read where its present stamp is kept.
-- Of a process, kept mappings are read only where it is to be kept, a remembered id's status never.
use Rattle.std.specs.Prelude.{ℕ, ◌+◌, Bool, true, false, cond, List, [], ◌∷◌, map, Option, Some, None, option_and_then, Result, Ok, Err}
use Rattle.std.specs.List.{list_any}
use Rattle.std.specs.Str.{bytes_eq}
use Rattle.bz_base.specs.declared.error.Error.{Error}
use Rattle.bz_files.specs.World.{World, entry_at}
use Rattle.bz_cache.specs.Cache.{Cache, with_pin}
use Rattle.bz_cache.specs.Look.{will_open}
use Rattle.bz_proc.specs.Maps.{Mapping, Name, File, Component, owner_of}
use Rattle.bz_process.specs.Asked.{Asked, asked_of}
use Rattle.bz_process.specs.Caches.{ProcessCaches}
use Rattle.bz_process.specs.Caching.{Caching}
use Rattle.bz_process.specs.Mapped.{asks_process, some_mappings}
use Rattle.bz_process.specs.Process.{count_of, remember, unsaid}
use Rattle.bz_process.specs.Processes.{kept_mappings}
use Rattle.bz_process.specs.Reads.{left_to_read, perf_path, reads_again, reads_once}
use Rattle.bz_requests.specs.Requests.{Request, Batch, CacheElf, CacheProcess, EvictElf, EvictProcess, Single, Target, Breakpad, Elf, Gsym, Process}
use Rattle.bz_symq.specs.Kept.{KeptState, caches_in}
use Rattle.bz_symq.specs.Processes.{pid_of}
use Rattle.bz_serve.specs.RequestSteps.{query_by, step}

-- the paths with one more, if it isn't there
abbrev pub with_path : Option (List ℕ) → List (List ℕ) → List (List ℕ)
with_path None paths = paths
with_path (Some path) paths = cond (list_any (bytes_eq path) paths) paths (path ∷ paths)

-- the path by which the file of a mapping is looked at, if it is of one
abbrev pub path_by : Asked → Option Name → Option (List ℕ)
path_by asked None = None
path_by asked (Some (Component text)) = None
path_by asked (Some (File maps_file symbolic_path)) = Some (cond asked.map_files maps_file symbolic_path)

-- the paths of the files that are mapped where the addresses lie, each once
abbrev pub mapped_paths : Asked → List ℕ → List Mapping → List (List ℕ)
mapped_paths asked [] mappings = []
mapped_paths asked (addr ∷ later) mappings = with_path (option_and_then (λ mapping. path_by asked mapping.name) (owner_of mappings addr)) (mapped_paths asked later mappings)

-- by the mappings that are told, if some are
abbrev pub told_paths : Asked → List ℕ → Result (List Mapping) Error → List (List ℕ)
told_paths asked addrs (Ok mappings) = mapped_paths asked addrs mappings
told_paths asked addrs (Err e) = []

-- what addresses of a process may have read once. It is the text of its mappings, its status,
-- and each mapped file and perf map whose present stamp isn't kept
abbrev pub process_reads : Asked → Option (List Mapping) → List ℕ → World → ProcessCaches → ℕ
process_reads asked known addrs world kept = reads_once asked world (told_paths asked addrs (some_mappings asked.pid known world kept).answer) known kept

-- a batch of them: one more for each address that is refused, or for each where the batch is
abbrev pub batch_reads : Asked → Option (List Mapping) → List ℕ → World → ProcessCaches → ℕ
batch_reads asked known addrs world kept =
    process_reads asked known addrs world kept + reads_again (λ answers. answers) addrs (asks_process asked known (map unsaid addrs) world kept).answer

-- what keeping a process may have read, as far as each is asked for. It is the text of its mappings,
-- kept or not, its status, and its perf map if the present stamp isn't kept
abbrev pub caching_reads : Caching → World → ProcessCaches → ℕ
caching_reads asked world kept =
    count_of asked.vmas + cond asked.perf_map (left_to_read asked.pid world [] (perf_path (remember asked.pid asked.own world kept).answer) kept) 0

-- one file: none where its path is held and isn't looked at anew, or its present stamp is kept
abbrev pub file_reads : Cache → List ℕ → World → ℕ
file_reads cache path world = count_of (will_open cache path (entry_at world path))

-- by the setting for paths that stand for mappings, and the id of the own process
module _ (map_files : Bool) (own : ℕ) where
  -- what is asked of a target: of a process by how it is asked, and by the mappings that are kept of it
  abbrev pub target_reads : (Asked → Option (List Mapping) → ℕ) → Target → KeptState → World → ℕ
  target_reads of_process (Breakpad path) kept world = file_reads kept.files.breakpad path world
  target_reads of_process (Gsym path) kept world = file_reads kept.files.gsym path world
  target_reads of_process (Elf path) kept world = file_reads kept.files.elf path world
  target_reads of_process (Process number) kept world = of_process (asked_of own (query_by map_files number)) (kept_mappings kept.processes (pid_of number))

  -- a request; a path that is to be kept is looked at as if it weren't pinned
  abbrev pub request_reads : Request → KeptState → World → ℕ
  request_reads (Batch target addrs) kept world = target_reads (λ asked known. batch_reads asked known addrs world (caches_in kept)) target kept world
  request_reads (Single target addr) kept world = target_reads (λ asked known. process_reads asked known (addr ∷ []) world (caches_in kept)) target kept world
  request_reads (CacheElf path) kept world = file_reads (with_pin false kept.files.elf path) path world
  request_reads (CacheProcess number) kept world = caching_reads (record { pid = pid_of number; own = own; vmas = true; perf_map = true }) world (caches_in kept)
  request_reads (EvictElf path) kept world = 0
  request_reads (EvictProcess number) kept world = 0

  -- requests one after the other, each in its world and in the state that those before it left
  abbrev pub requests_read : KeptState → List (World × Request) → ℕ
  requests_read kept [] = 0
  requests_read kept (turn ∷ later) = request_reads turn.1 kept turn.0 + requests_read (step map_files own turn.1 kept turn.0).state later
