-- Caching what answers for a process ahead of its addresses: its mappings are kept, its id is
-- remembered, and its perf map is pinned.
use Rattle.std.specs.Prelude.{ℕ, Bool, true, false, cond, List, Option, Result, Ok, Err}
use Rattle.std.specs.BTreeMap.{insert_entry}
use Rattle.std.specs.Option.{option_map_or}
use Rattle.bz_base.specs.declared.error.Error.{Error}
use Rattle.bz_base.specs.declared.error.Error.TheVariants as errors
use Rattle.bz_base.specs.declared.pid.Pid.{Pid}
use Rattle.bz_files.specs.World.{World, Entry, entry_at}
use Rattle.bz_cache.specs.Cache.{Cache, with_pin}
use Rattle.bz_cache.specs.InsertMap.{value_at, with_value, without}
use Rattle.bz_cache.specs.Look.{will_open}
use Rattle.bz_cache.specs.Pinning.{pinning}
use Rattle.bz_proc.specs.Maps.{Mapping}
use Rattle.bz_proc.specs.MapsFile.{maps_path, maps_told}
use Rattle.bz_proc.specs.PerfMap as perf
use Rattle.bz_process.specs.Mapped.{of_text}
use Rattle.bz_process.specs.Process.{Step, and_then, count_of, gives, pid_cmp, remember}
use Rattle.bz_process.specs.declared.caching.ProcessCaching.{ProcessCaching}

-- which process is cached, and the id of the own one; whether its mappings are kept, and whether its
-- perf map is pinned
pub record Caching : Type 0 where
  pub pid : Pid
  pub own : ℕ
  pub vmas : Bool
  pub perf_map : Bool

-- what a request asks for, where the own process has this id
abbrev pub caching_of : ℕ → ProcessCaching → Caching
caching_of own request = record { pid = request.pid; own = own; vmas = request.cache_vmas; perf_map = request.cache_perf_map }

-- an absent perf map is no refusal: a version that is held already is pinned then
abbrev pub pinned_if_absent : Cache → List ℕ → Result (Unit {0}) Error × Cache → Result (Unit {0}) Error × Cache
pinned_if_absent cache path (Err errors.NotFound, left) = (Ok tt, with_pin true cache path)
pinned_if_absent cache path (answer, left) = (answer, left)

-- a perf map is looked at as if it weren't pinned, and is pinned then
abbrev pub perf_map_pinning : Cache → List ℕ → Option Entry → Result (Unit {0}) Error × Cache
perf_map_pinning cache path there = pinned_if_absent cache path (pinning perf.format_test cache path there)

abbrev pub pins_perf_map : List ℕ → Step (Unit {0})
pins_perf_map path world kept = record {
  answer = (perf_map_pinning kept.perf_maps path (entry_at world path)).0;
  left = record kept { perf_maps = (perf_map_pinning kept.perf_maps path (entry_at world path)).1 };
  opens = count_of (will_open (with_pin false kept.perf_maps path) path (entry_at world path));
}

-- where its perf map is asked for, the process is remembered. The perf map is then pinned at the path
-- kept beside the id
abbrev pub caches_perf_map : Bool → Pid → ℕ → Step (Unit {0})
caches_perf_map false pid own = gives tt
caches_perf_map true pid own = and_then (remember pid own) (λ known. pins_perf_map known.perf_map)

-- where the mappings are asked for, those that lie there are read first, also where some are kept
abbrev pub after_mappings : Bool → Pid → Step (Unit {0}) → Step (Unit {0})
after_mappings false pid next = next
after_mappings true pid next = and_then (of_text (maps_told pid) (maps_path pid)) (λ mappings. next)

-- all that is asked: its answer, what is left of perf maps and ids, and how many files are read at most
abbrev pub caches_process : Caching → Step (Unit {0})
caches_process asked = after_mappings asked.vmas asked.pid (caches_perf_map asked.perf_map asked.pid asked.own)

-- the mappings of each process that are kept
abbrev pub KeptMappings : Type 0
KeptMappings = List (Pid × List Mapping)

-- this process has these mappings, whether it had some before or not
abbrev pub with_mappings : Pid → KeptMappings → List Mapping → KeptMappings
with_mappings pid kept mappings = option_map_or (λ former. with_value pid_cmp kept pid mappings) (value_at pid_cmp kept pid) (insert_entry pid_cmp kept pid mappings)

-- it has those that it had before again, if it had some
abbrev pub with_former : Pid → KeptMappings → Option (List Mapping) → KeptMappings
with_former pid kept former = option_map_or (λ mappings. with_value pid_cmp kept pid mappings) former (without pid_cmp kept pid)

-- the mappings that are told, if some are
abbrev pub with_told : Pid → KeptMappings → Result (List Mapping) Error → KeptMappings
with_told pid kept (Ok mappings) = with_mappings pid kept mappings
with_told pid kept (Err e) = kept

-- the mappings that are kept then: where they are asked for, those that lie there
abbrev pub mappings_after : Caching → World → KeptMappings → KeptMappings
mappings_after asked world kept = cond asked.vmas (with_told asked.pid kept (maps_told asked.pid (entry_at world (maps_path asked.pid)))) kept
