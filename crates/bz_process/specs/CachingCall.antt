-- What caching a process does: all of what it is asked for, or nothing.
use Rattle.std.specs.Prelude.{◌≡◌, ℕ, ◌+◌, ◌≤◌, Bool, true, false, cond, List, [], ◌∷◌, Option, Result, OnOk, OnErr, IfErr, IsOk}
use Rattle.std.specs.List.{AllByRecursion}
use Rattle.bz_base.specs.declared.error.Error.{Error}
use Rattle.bz_base.specs.declared.pid.Pid.{Pid}
use Rattle.bz_files.specs.Looked.{Faulted, Looked}
use Rattle.bz_files.specs.World.{World, Told, in_view}
use Rattle.bz_files.specs.declared.files.Files.{Ghosts}
use Rattle.bz_cache.specs.Cache.{Cache, Consistent, with_pin}
use Rattle.bz_cache.specs.Format.{GivesOrFaults}
use Rattle.bz_cache.specs.InsertMap.{value_at, with_absent}
use Rattle.bz_cache.specs.Pinning.{IsLeft}
use Rattle.bz_proc.specs.Maps.{Mapping}
use Rattle.bz_proc.specs.MapsFile.{AreOfText}
use Rattle.bz_proc.specs.PerfMap as perf
use Rattle.bz_proc.specs.SystemText.{IsReadRefusal}
use Rattle.bz_process.specs.Caches.{ProcessCaches, caches}
use Rattle.bz_process.specs.Caching.{Caching, KeptMappings, caches_process, mappings_after, perf_map_pinning, with_mappings}
use Rattle.bz_process.specs.Process.{StepOutcome, Step, pid_cmp}
use Rattle.bz_process.specs.ProcessCall.{Change, IsTold, StaysKept, changed}
use Rattle.bz_process.specs.Processes.{KeptProcesses, caches_of}
use Rattle.bz_process.specs.Remembered.{Remembered}
use Rattle.bz_process.specs.Untold.{IsKnown}
use Rattle.bz_process.specs.declared.perf_maps.PerfMaps.{PerfMaps}

-- what caching may change: what a call may that answers, and whether the path of a perf map is pinned,
-- if it is held
pub data CachingChange : Type 0 where
  Called : Change → CachingChange
  PinPerfMap : Bool → List ℕ → CachingChange

abbrev pub cached_so : CachingChange → ProcessCaches → ProcessCaches
cached_so (Called change) kept = changed change kept
cached_so (PinPerfMap pinned path) kept = record kept { perf_maps = with_pin pinned kept.perf_maps path }

abbrev pub after_caching : List CachingChange → ProcessCaches → ProcessCaches
after_caching [] kept = kept
after_caching (change ∷ later) kept = after_caching later (cached_so change kept)

-- looks and ids are those that the world tells
abbrev pub IsCachedTold : ℕ → World → CachingChange → Type 0
IsCachedTold own world (Called change) = IsTold own world change
IsCachedTold own world (PinPerfMap pinned path) = Unit {0}

-- some looks, ids and pins lead from one to the other; where the world in view is told, they are those
-- that it tells
pub record CachingReaches (own : ℕ) (in_view : Option World) (old now : ProcessCaches) : Type 0 where
  pub changes : List CachingChange
  pub told : Told in_view (λ world. AllByRecursion (IsCachedTold own world) changes)
  pub leads : now ≡ after_caching changes old

-- a step of caching where it is told what lies at each path: its answer, and what an answer leaves. It
-- reads no more files than expected
pub record HasWhole {A B : Type 0} (reading : A → B) (expected : StepOutcome B) (result : Result A Error) (now : ProcessCaches) (before after : ℕ) : Type 0 where
  pub answer : GivesOrFaults reading expected.answer result
  pub left : OnOk result (now ≡ expected.left)
  pub opened : after ≤ before + expected.opens

-- a step that is taken whole, or changes nothing where it is refused
pub record TakesWhole {A B X : Type 0} (files : Ghosts X) (own : ℕ) (reading : A → B) (expected : Step B) (result : Result A Error) (old now : ProcessCaches) (before after : X) : Type 0 where
  pub told : Told (in_view (files.worlds before)) (λ world. HasWhole reading (expected world old) result now (files.opens before) (files.opens after))
  -- whatever is told, and whichever the refusal is
  pub err : OnErr result (now ≡ old)
  pub reached : CachingReaches own (in_view (files.worlds before)) old now
  pub perf_maps : StaysKept perf.format_test old.perf_maps now.perf_maps
  -- of the files: they are only looked at
  pub looked : Looked files before after (Faulted result)

-- such a step of the perf maps and of what is remembered of processes, beside any ELF files
abbrev pub StepsPerfMapsWhole : {X : Type 0} → Ghosts X → ℕ → Step (Unit {0}) → Result (Unit {0}) Error → PerfMaps → PerfMaps → X → X → Type 0
StepsPerfMapsWhole files own expected result old now before after =
    (elf : Cache) → TakesWhole files own (λ (done : Unit {0}). done) expected result (caches elf old) (caches elf now) before after

-- the mappings of this process alone may be others, and only where they are asked for
pub record MayKeep (asked : Caching) (old now : KeptMappings) : Type 0 where
  pub mappings : List Mapping
  -- whatever is told, some text tells them
  pub untold : asked.vmas ≡ true → AreOfText asked.pid mappings
  pub kept : now ≡ cond asked.vmas (with_mappings asked.pid old mappings) old

-- the process is known and is remembered. Its perf map is pinned at the version of a look, or as it is
-- held. Nothing else has changed
pub record PinsKnown (pid : Pid) (own : ℕ) (in_view : Option World) (old now : ProcessCaches) : Type 0 where
  pub known : Remembered
  pub is_known : IsKnown pid own (value_at pid_cmp old.ids pid) known
  pub pinned : IsLeft (perf_map_pinning old.perf_maps known.perf_map) known.perf_map in_view now.perf_maps
  pub rest : now ≡ record old { perf_maps = now.perf_maps; ids = with_absent pid_cmp old.ids pid known }

-- where the perf map is asked for, that is so; else nothing has changed
abbrev pub MayPin : Bool → Pid → ℕ → Option World → ProcessCaches → ProcessCaches → Type 0
MayPin false pid own in_view old now = now ≡ old
MayPin true pid own in_view old now = PinsKnown pid own in_view old now

-- all that caching a process promises
pub record CachesProcess {D R X : Type 0} (files : Ghosts X) (asked : Caching) (result : Result (Unit {0}) Error) (old now : KeptProcesses D R) (before after : X) : Type 0 where
  -- beside any ELF files: where it is told what lies at each path, that answers or refuses. An answer
  -- leaves the expected perf maps and ids. Whatever is told, looks, ids and pins lead to what is left.
  -- The files are only looked at
  pub step : (elf : Cache) → TakesWhole files asked.own (λ (done : Unit {0}). done) (caches_process asked) result (caches_of elf old) (caches_of elf now) before after
  -- an answer leaves these mappings
  pub mappings : Told (in_view (files.worlds before)) (λ world. OnOk result (now.mappings ≡ mappings_after asked world old.mappings))
  pub untold : OnOk result (MayKeep asked old.mappings now.mappings)
  -- and, whatever is told, these perf maps and ids
  pub pinned : (elf : Cache) → OnOk result (MayPin asked.perf_map asked.pid asked.own (in_view (files.worlds before)) (caches_of elf old) (caches_of elf now))
  -- a refusal, whichever it is, changes nothing
  pub err : OnErr result (now ≡ old)
  pub refusal : IfErr result IsReadRefusal
  -- a request that asks for nothing is answered
  pub sure : asked.vmas ≡ false → asked.perf_map ≡ false → IsOk result
  -- nothing else changes
  pub dispatcher : now.dispatcher ≡ old.dispatcher
  pub answers : now.answers ≡ old.answers
  -- not what the call does, but what it found: each version of a perf map that was kept is in its
  -- format. Callers learn it only here, and by it they show that a held version isn't refused
  pub found : Consistent perf.format_test old.perf_maps
