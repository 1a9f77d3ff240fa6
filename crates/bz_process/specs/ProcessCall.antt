-- What a step of a call on a process does.
use Rattle.std.specs.Prelude.{◌≡◌, ℕ, ◌+◌, ◌≤◌, List, [], ◌∷◌, Option, Result, Ok, Err}
use Rattle.std.specs.List.{AllByRecursion}
use Rattle.bz_base.specs.declared.error.Error.{Error}
use Rattle.bz_base.specs.declared.error.Error.TheVariants as errors
use Rattle.bz_base.specs.declared.types.Reason.TheVariants as reasons
use Rattle.bz_base.specs.declared.types.Symbolized.{Symbolized}
use Rattle.bz_base.specs.declared.types.Symbolized.TheVariants as symbolized
use Rattle.bz_files.specs.Looked.{Faulted, Looked}
use Rattle.bz_files.specs.World.{World, Entry, Told, in_view, entry_at}
use Rattle.bz_files.specs.declared.files.Files.{Ghosts}
use Rattle.bz_cache.specs.Cache.{Cache, Consistent}
use Rattle.bz_cache.specs.Format.{GivesOrFaults}
use Rattle.bz_cache.specs.InsertMap.{with_absent}
use Rattle.bz_cache.specs.Look.{look}
use Rattle.bz_elf.specs.Format as elf
use Rattle.bz_proc.specs.PerfMap as perf
use Rattle.bz_proc.specs.PerfId.{ns_tgid_of, status_path}
use Rattle.bz_base.specs.declared.pid.Pid.{Pid}
use Rattle.bz_process.specs.Process.{StepOutcome, Step, pid_cmp, remembered}
use Rattle.bz_process.specs.Remembered.{Remembered}
use Rattle.bz_process.specs.Caches.{ProcessCaches, caches}
use Rattle.bz_process.specs.declared.perf_maps.PerfMaps.{PerfMaps}

-- what may change in what is kept of processes: a look at a path that has this, or a process that is
-- remembered
pub data Change : Type 0 where
  LookElf : List ℕ → Option Entry → Change
  LookPerfMap : List ℕ → Option Entry → Change
  Remember : Pid → Remembered → Change

abbrev pub changed : Change → ProcessCaches → ProcessCaches
changed (LookElf path there) kept = record kept { elf = (look elf.format_test kept.elf path there).1 }
changed (LookPerfMap path there) kept = record kept { perf_maps = (look perf.format_test kept.perf_maps path there).1 }
changed (Remember pid known) kept = record kept { ids = with_absent pid_cmp kept.ids pid known }

abbrev pub after_changes : List Change → ProcessCaches → ProcessCaches
after_changes [] kept = kept
after_changes (change ∷ later) kept = after_changes later (changed change kept)

-- a change is one that the world tells: the path has this there, or the status there tells the id
abbrev pub IsTold : ℕ → World → Change → Type 0
IsTold own world (LookElf path there) = there ≡ entry_at world path
IsTold own world (LookPerfMap path there) = there ≡ entry_at world path
IsTold own world (Remember pid known) = (id : ℕ) × (ns_tgid_of pid own (entry_at world (status_path pid)) ≡ Ok id) × (known ≡ remembered pid own id)

-- some looks and ids lead from one to the other; where the world in view is told, they are those that
-- it tells
pub record Reaches (own : ℕ) (in_view : Option World) (old now : ProcessCaches) : Type 0 where
  pub changes : List Change
  pub told : Told in_view (λ world. AllByRecursion (IsTold own world) changes)
  pub leads : now ≡ after_changes changes old

-- this holds, unless a file failed or memory ran out
abbrev pub UnlessFailed : {A : Type 0} → Result A Error → Type 0 → Type 0
UnlessFailed (Err errors.ReadFault) P = Unit {0}
UnlessFailed (Err errors.OutOfMemory) P = Unit {0}
UnlessFailed _ P = P

-- what is expected is left, unless a file failed or memory ran out
abbrev pub LeavesUnlessFailed : {A S : Type 0} → Result A Error → S → S → Type 0
LeavesUnlessFailed result expected now = UnlessFailed result (now ≡ expected)

-- a step where it is told what lies at each path
pub record HasOutcome {A B : Type 0} (reading : A → B) (expected : StepOutcome B) (result : Result A Error) (now : ProcessCaches) (before after : ℕ) : Type 0 where
  -- its answer, and what it leaves; and it reads no more files than expected
  pub answer : GivesOrFaults reading expected.answer result
  pub left : LeavesUnlessFailed result expected.left now
  pub opened : after ≤ before + expected.opens

-- the caches stay well kept, and are looked at anew as before
pub record StaysKept (test : List ℕ → Option Error) (old now : Cache) : Type 0 where
  pub consistent : Consistent test old → Consistent test now
  pub reload : now.reload ≡ old.reload

-- all that a step of a call on a process does
pub record TakesStep {A B X : Type 0} (files : Ghosts X) (own : ℕ) (reading : A → B) (expected : Step B) (result : Result A Error) (old now : ProcessCaches) (before after : X) : Type 0 where
  -- where it is told what lies at each path, its outcome is the expected one
  pub told : Told (in_view (files.worlds before)) (λ world. HasOutcome reading (expected world old) result now (files.opens before) (files.opens after))
  -- whatever is told and answered, looks and ids lead to what it leaves
  pub reached : Reaches own (in_view (files.worlds before)) old now
  pub elf : StaysKept elf.format_test old.elf now.elf
  pub perf_maps : StaysKept perf.format_test old.perf_maps now.perf_maps
  -- of the files: they are only looked at
  pub looked : Looked files before after (Faulted result)

-- a step of the perf maps and of what is remembered of processes, beside any ELF files
abbrev pub StepsPerfMaps : {A B X : Type 0} → Ghosts X → ℕ → (A → B) → Step B → Result A Error → PerfMaps → PerfMaps → X → X → Type 0
StepsPerfMaps files own reading expected result old now before after =
    (elf : Cache) → TakesStep files own reading expected result (caches elf old) (caches elf now) before after

-- an answer, where a file that is absent makes the address unknown
abbrev pub softened : Result Symbolized Error → Result Symbolized Error
softened (Ok answer) = Ok answer
softened (Err errors.NotFound) = Ok (symbolized.Unknown reasons.UnknownAddr)
softened (Err e) = Err e
