-- A process as a run asks it: with a symbolizer that keeps nothing, and no resolver in
-- charge of what is mapped.
use Rattle.std.specs.Prelude.{◌≡◌, ◌⊎◌, ℕ, zero, suc, true, List, [], ◌∷◌, map, Option, None}
use Rattle.std.proofs.Common.{zero-lt-suc}
use Rattle.bz_base.specs.Answer.{Answer}
use Rattle.bz_base.specs.declared.error.Error.{Error}
use Rattle.bz_base.specs.declared.error.Error.TheVariants as errors
use Rattle.bz_base.specs.declared.pid.Pid.{Pid}
use Rattle.bz_base.specs.declared.pid.Pid.TheVariants as pids
use Rattle.bz_cache.specs.Cache.{new_cache}
use Rattle.bz_files.specs.World.{World, Entry, entry_at}
use Rattle.bz_proc.specs.Maps.{Mapping, AreMappings}
use Rattle.bz_proc.specs.MapsFile.{maps_path}
use Rattle.bz_process.specs.Asked.{Asked}
use Rattle.bz_process.specs.Caches.{ProcessCaches}
use Rattle.bz_process.specs.Mapped.{asks_process}
use Rattle.bz_process.specs.Process.{StepOutcome, batched, unsaid}
use Rattle.bz_process.specs.Untold.{SomeAtAddresses}
use Rattle.bz_requests.specs.declared.requests.Config.{Config}

-- the process that a number names: the own one for 0, and else the one with this id
abbrev pub pid_of : ℕ → Pid
pid_of zero = pids.Slf
pid_of (suc n) = pids.Pid (record { value = suc n; ok = zero-lt-suc n })

-- how it is asked, where the own one has this id: with its perf map. Mapped files are looked at by the
-- paths that stand for their mappings, or by their own, as configured
abbrev pub asked_by : Config → ℕ → ℕ → Asked
asked_by config number own = record { pid = pid_of number; own = own; perf_map = true; map_files = config.map_files }

-- no file is kept, and of no process anything is remembered
abbrev pub nothing_kept : Config → ProcessCaches
nothing_kept config = record { elf = new_cache config.reload; perf_maps = new_cache config.reload; ids = [] }

-- what it gives at addresses in it, one after another, where nothing is kept and
-- no resolver is in charge
abbrev pub process_batch : Config → ℕ → ℕ → List ℕ → World → StepOutcome (List Answer)
process_batch config number own addrs world = asks_process (asked_by config number own) None (map unsaid addrs) world (nothing_kept config)

-- what lies where the text of its mappings does
abbrev pub maps_of : ℕ → World → Option Entry
maps_of number world = entry_at world (maps_path (pid_of number))

-- a text tells mappings, one at least
abbrev pub TellsMappings : ℕ → List ℕ → Type 0
TellsMappings number text = (mapping : Mapping) × (later : List Mapping) × AreMappings (pid_of number) text (mapping ∷ later)

-- a text tells mappings, one at least, and by these the process answers each address in order, a
-- refused one as an ignored error
pub record IsProcessBatch (config : Config) (number own : ℕ) (world : World) (text addrs : List ℕ) (answers : List Answer) : Type 0 where
  pub tells : TellsMappings number text
  pub answers_are : answers ≡ (batched (asked_by config number own) (tells.0 ∷ tells.1) (map unsaid addrs) world (nothing_kept config)).answers

-- whatever the files tell, a process gave these answers by the mappings of some text, each
-- address in order. Where a file is looked at, some version answers, or an ignored error
-- stands for the look's refusal
pub record IsSomeProcessBatch (config : Config) (number own : ℕ) (addrs : List ℕ) (answers : List Answer) : Type 0 where
  pub text : List ℕ
  pub tells : TellsMappings number text
  pub kept_after : ProcessCaches
  pub answers_are : SomeAtAddresses (asked_by config number own) (tells.0 ∷ tells.1) (map unsaid addrs) answers (nothing_kept config) kept_after

-- why a text gives no answers: it is malformed, or it tells that there are none
abbrev pub IsMapsCause : ℕ → List ℕ → Error → Type 0
IsMapsCause number text e =
    ((e ≡ errors.InvalidData) × ((mappings : List Mapping) → AreMappings (pid_of number) text mappings → ⊥))
    ⊎ ((e ≡ errors.UnexpectedEof) × AreMappings (pid_of number) text [])
