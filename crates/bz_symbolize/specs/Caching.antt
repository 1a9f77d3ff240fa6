-- Keeping what answers ahead of addresses: an ELF file, or what answers for a process. All that is
-- asked for is kept, or nothing.
use Rattle.std.specs.Prelude.{◌≡◌, ℕ, ◌+◌, ◌≤◌, false, cond, List, Option, is_some, Result, Ok, Err, IsOk, OnOk, OnErr}
use Rattle.bz_base.specs.declared.error.Error.{Error}
use Rattle.bz_base.specs.declared.error.Error.TheVariants as errors
use Rattle.bz_files.specs.Looked.{Faulted, Looked}
use Rattle.bz_files.specs.World.{World, Told, entry_at, in_view}
use Rattle.bz_files.specs.declared.files.Files.{Ghosts}
use Rattle.bz_cache.specs.Cache.{Cache, with_pin}
use Rattle.bz_cache.specs.Coherence.{Coherent}
use Rattle.bz_cache.specs.Format.{GivesOrFaults}
use Rattle.bz_cache.specs.Look.{will_open}
use Rattle.bz_cache.specs.View.{bytes_of_view, fixed, shown}
use Rattle.bz_cache.specs.Pinning.{PinsFile, pinning}
use Rattle.bz_elf.specs.Format as elf
use Rattle.bz_proc.specs.MapsFile.{maps_path, maps_told}
use Rattle.bz_proc.specs.PerfMap as perf
use Rattle.bz_process.specs.Caching.{Caching, caches_process, caching_of, mappings_after}
use Rattle.bz_process.specs.CachingCall.{CachesProcess}
use Rattle.bz_process.specs.Process.{StepOutcome, count_of, remember}
use Rattle.bz_process.specs.ProcessCall.{UnlessFailed}
use Rattle.bz_process.specs.Processes.{caches_of}
use Rattle.bz_process.specs.Remembered.{Remembered}
use Rattle.bz_symbolize.specs.History.{ChangesLead}
use Rattle.bz_symbolize.specs.Requests.{ToCache, CacheElf, CacheProcess}
use Rattle.bz_symbolize.specs.State.{WellKept, WholeState}

-- what a call gives or how it is refused, the symbolizer that an answer leaves, and how many files are
-- read at most
pub record Cached (D R : Type 0) : Type 0 where
  pub answer : Result (Unit {0}) Error
  pub left : WholeState D R
  pub opens : ℕ

-- an ELF file is looked at as if its path weren't pinned, and its path is pinned then
abbrev pub caching_elf : {D R : Type 0} → List ℕ → World → WholeState D R → Cached D R
caching_elf path world whole = record {
  answer = (pinning elf.format_test whole.files.elf path (entry_at world path)).0;
  left = record whole { files = record whole.files { elf = (pinning elf.format_test whole.files.elf path (entry_at world path)).1 } };
  opens = count_of (will_open (with_pin false whole.files.elf path) path (entry_at world path));
}

-- the mappings of a process are kept, its id is remembered and its perf map is pinned, by what its step
-- gives
abbrev pub cached_by : {D R : Type 0} → Caching → World → WholeState D R → StepOutcome (Unit {0}) → Cached D R
cached_by asked world whole step = record {
  answer = step.answer;
  left = record whole { processes = record whole.processes { perf_maps = step.left.perf_maps; ids = step.left.ids; mappings = mappings_after asked world whole.processes.mappings } };
  opens = step.opens;
}

-- what is asked for is kept, in a world, where the own process has this id
abbrev pub caching : {D R : Type 0} → ToCache → ℕ → World → WholeState D R → Cached D R
caching (CacheElf path) own world whole = caching_elf path world whole
caching (CacheProcess asked) own world whole =
    cached_by (caching_of own asked) world whole (caches_process (caching_of own asked) world (caches_of whole.files.elf whole.processes))

-- whether it is answered, or its refusal
abbrev pub finished : {A : Type 0} → Result A Error → Result (Unit {0}) Error
finished (Ok given) = Ok tt
finished (Err e) = Err e

-- one after another: the first that is refused refuses
abbrev pub in_turn : Result (Unit {0}) Error → Result (Unit {0}) Error → Result (Unit {0}) Error
in_turn (Ok done) later = later
in_turn (Err e) later = Err e

-- an absent file is no refusal
abbrev pub or_absent : Result (Unit {0}) Error → Result (Unit {0}) Error
or_absent (Err errors.NotFound) = Ok tt
or_absent answer = answer

-- the file in view at a path, as if that weren't pinned. One that is held and isn't looked at anew is
-- pinned as it is. Any other is refused where it is absent, may not be read, or isn't in the format
abbrev pub unpinned_in_view : (List ℕ → Option Error) → Cache → World → List ℕ → Result (Unit {0}) Error
unpinned_in_view test cache world path =
    cond (is_some (fixed (with_pin false cache path) path)) (Ok tt) (finished (bytes_of_view test (shown (entry_at world path))))

-- the perf map of what is remembered of a process, or would be
abbrev pub perf_map_in_view : Cache → World → Result Remembered Error → Result (Unit {0}) Error
perf_map_in_view perf_maps world (Ok known) = or_absent (unpinned_in_view perf.format_test perf_maps world known.perf_map)
perf_map_in_view perf_maps world (Err e) = Err e

-- which file in view refuses, if one does: the ELF file. Of a process it is the text of its mappings,
-- then its status unless its id is remembered, then its perf map. Each of these is looked at as far as
-- it is asked for
abbrev pub caching_in_view : {D R : Type 0} → ToCache → ℕ → World → WholeState D R → Result (Unit {0}) Error
caching_in_view (CacheElf path) own world whole = unpinned_in_view elf.format_test whole.files.elf world path
caching_in_view (CacheProcess asked) own world whole =
    in_turn (cond asked.cache_vmas (finished (maps_told asked.pid (entry_at world (maps_path asked.pid)))) (Ok tt))
    (cond asked.cache_perf_map (perf_map_in_view whole.processes.perf_maps world (remember asked.pid own world (caches_of whole.files.elf whole.processes)).answer) (Ok tt))

-- the kept versions of the one cache that is looked into cohere with the world: equal stamps mean equal
-- bytes
abbrev pub CoheresFor : {D R : Type 0} → ToCache → WholeState D R → World → Type 0
CoheresFor (CacheElf path) whole world = Coherent whole.files.elf.kept world
CoheresFor (CacheProcess asked) whole world = Coherent whole.processes.perf_maps.kept world

-- a call where it is told what lies at each path
pub record CachedTold {D R : Type 0} (expected : Cached D R) (result : Result (Unit {0}) Error) (now : WholeState D R) (before after : ℕ) : Type 0 where
  -- its answer, and the symbolizer that an answer leaves
  pub answer : GivesOrFaults (λ (done : Unit {0}). done) expected.answer result
  pub left : OnOk result (now ≡ expected.left)
  -- it reads no more files
  pub opened : after ≤ before + expected.opens

-- all that a call on an ELF file does
pub record CachesElf {D R X : Type 0} (files : Ghosts X) (path : List ℕ) (result : Result (Unit {0}) Error) (old now : WholeState D R) (before after : X) : Type 0 where
  -- also where it isn't told what lies there, the path is pinned at the version of some look. One file
  -- at most is read, and none whose present version is kept
  pub pins : PinsFile files elf.format_test path result old.files.elf now.files.elf before after
  -- nothing else changes
  pub rest : now ≡ record old { files = record old.files { elf = now.files.elf } }

-- all that a call on a process does
pub record CachesOfProcess {D R X : Type 0} (files : Ghosts X) (asked : Caching) (result : Result (Unit {0}) Error) (old now : WholeState D R) (before after : X) : Type 0 where
  pub keeps : CachesProcess files asked result old.processes now.processes before after
  -- no file of a source changes
  pub rest : now.files ≡ old.files

-- what a call does, by what is asked for
abbrev pub CachesAsAsked : {D R X : Type 0} → Ghosts X → ToCache → Result (Unit {0}) Error → WholeState D R → WholeState D R → X → X → Type 0
CachesAsAsked files (CacheElf path) result old now before after = CachesElf files path result old now before after
CachesAsAsked files (CacheProcess asked) result old now before after = CachesOfProcess files (caching_of (files.pid before) asked) result old now before after

-- all that keeping something ahead of addresses promises
pub record Caches {D R X : Type 0} (files : Ghosts X) (asked : ToCache) (result : Result (Unit {0}) Error) (old now : WholeState D R) (before after : X) : Type 0 where
  -- the answer, the symbolizer that an answer leaves, and how many files are read at most are those of
  -- the definitions
  pub told : Told (in_view (files.worlds before)) (λ world. CachedTold (caching asked (files.pid before) world old) result now (files.opens before) (files.opens after))
  -- where kept versions cohere with the world in view, it is refused exactly by the first of the files
  -- in view that refuses
  pub causes : Told (in_view (files.worlds before)) (λ world. CoheresFor asked old world →
      GivesOrFaults (λ (done : Unit {0}). done) (caching_in_view asked (files.pid before) world old) result)
  -- where none of the files in view refuses, it is answered, unless something fails
  pub complete : Told (in_view (files.worlds before)) (λ world. caching_in_view asked (files.pid before) world old ≡ Ok tt → UnlessFailed result (IsOk result))
  -- a refusal, whichever it is, changes nothing
  pub err : OnErr result (now ≡ old)
  -- so the call stands as looks and pins, all in its world, in lists that keep versions coherent
  pub history : Told (in_view (files.worlds before)) (λ world. ChangesLead world old.files now.files old.processes.perf_maps now.processes.perf_maps)
  -- whatever is told: what it does by what is asked for, and that nothing else changes
  pub called : CachesAsAsked files asked result old now before after
  pub caches : WellKept old.files → WellKept now.files
  -- of the files: they are only looked at
  pub looked : Looked files before after (Faulted result)
