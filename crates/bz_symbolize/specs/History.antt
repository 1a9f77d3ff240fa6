-- What a list of calls may leave of a symbolizer, each call in its world.
use Rattle.std.specs.Prelude.{◌≡◌, ◌⊎◌, ℕ, Bool, List, [], ◌∷◌, map}
use Rattle.std.specs.List.{AllByRecursion}
use Rattle.bz_base.specs.InputKind.{AddressKind}
use Rattle.bz_files.specs.World.{World, entry_at}
use Rattle.bz_cache.specs.Cache.{Cache, with_pin}
use Rattle.bz_cache.specs.Coherence.{Coherent, HasBytes}
use Rattle.bz_cache.specs.Eviction.{evicted}
use Rattle.bz_cache.specs.Insertion.{insertion}
use Rattle.bz_cache.specs.Look.{look}
use Rattle.bz_elf.specs.Format as elf
use Rattle.bz_proc.specs.PerfMap as perf
use Rattle.bz_symbolize.specs.Lookup.{state_of}
use Rattle.bz_symbolize.specs.Sources.{form_of}
use Rattle.bz_symbolize.specs.State.{State}
use Rattle.bz_symbolize.specs.declared.source.Source.{Source}

-- a call of a symbolizer: a source that is a file or bytes is asked for addresses of some kind. Nothing
-- else that is asked matters to the state. Or bytes are registered as those of the ELF file at a path.
-- Any other call stands here as its changes, one after another and all in its world. Of an ELF file or
-- a perf map, a path is looked at, pinned or unpinned if it is held, or forgotten.
pub data Call : Type 0 where
  Symbolize : Source → AddressKind → Call
  Register : List ℕ → List ℕ → Call
  LookAtElf : List ℕ → Call
  PinElf : Bool → List ℕ → Call
  ForgetElf : List ℕ → Call
  LookAtPerfMap : List ℕ → Call
  PinPerfMap : Bool → List ℕ → Call
  ForgetPerfMap : List ℕ → Call

-- the state that a call leaves in its world, if it comes to it
abbrev pub state_after : State → World → Call → State
state_after state world (Symbolize source kind) = state_of state (form_of source) kind world
state_after state world (Register path bytes) = record state { elf = (insertion state.elf path bytes (entry_at world path)).1 }
state_after state world (LookAtElf path) = record state { elf = (look elf.format_test state.elf path (entry_at world path)).1 }
state_after state world (PinElf pinned path) = record state { elf = with_pin pinned state.elf path }
state_after state world (ForgetElf path) = record state { elf = evicted state.elf path }
state_after state world (LookAtPerfMap path) = state
state_after state world (PinPerfMap pinned path) = state
state_after state world (ForgetPerfMap path) = state

-- and the perf maps
abbrev pub perf_maps_after : Cache → World → Call → Cache
perf_maps_after perf_maps world (LookAtPerfMap path) = (look perf.format_test perf_maps path (entry_at world path)).1
perf_maps_after perf_maps world (PinPerfMap pinned path) = with_pin pinned perf_maps path
perf_maps_after perf_maps world (ForgetPerfMap path) = evicted perf_maps path
perf_maps_after perf_maps world _ = perf_maps

-- what a call may leave in its world: the state as it was, or the one after it
abbrev pub MayLeave : State → World → Call → State → Type 0
MayLeave old world call now = (now ≡ old) ⊎ (now ≡ state_after old world call)

-- the states that a list of calls may leave, each call in its own world
abbrev pub MayReach : State → List (World × Call) → State → Type 0
MayReach start [] end = end ≡ start
MayReach start (step ∷ later) end = (next : State) × MayLeave start step.0 step.1 next × MayReach next later end

-- the same of perf maps
abbrev pub PerfMapsMayLeave : Cache → World → Call → Cache → Type 0
PerfMapsMayLeave old world call now = (now ≡ old) ⊎ (now ≡ perf_maps_after old world call)

abbrev pub PerfMapsMayReach : Cache → List (World × Call) → Cache → Type 0
PerfMapsMayReach start [] end = end ≡ start
PerfMapsMayReach start (step ∷ later) end = (next : Cache) × PerfMapsMayLeave start step.0 step.1 next × PerfMapsMayReach next later end

-- the call is a look
abbrev pub IsLook : Call → Type 0
IsLook (LookAtElf path) = Unit {0}
IsLook (LookAtPerfMap path) = Unit {0}
IsLook _ = ⊥

-- the call is a look, a pin, or a path that is forgotten
abbrev pub IsChange : Call → Type 0
IsChange (Symbolize source kind) = ⊥
IsChange (Register path bytes) = ⊥
IsChange _ = Unit {0}

-- calls that are all in one world
abbrev pub all_in : World → List Call → List (World × Call)
all_in world calls = map (λ call. (world, call)) calls

-- calls of a kind, all in one world, lead from one state, and from some perf maps, to others
pub record CallsLead (IsOfKind : Call → Type 0) (world : World) (old now : State) (before after : Cache) : Type 0 where
  pub calls : List Call
  pub are_of_kind : AllByRecursion IsOfKind calls
  pub files : MayReach old (all_in world calls) now
  pub perf_maps : PerfMapsMayReach before (all_in world calls) after

-- looks alone do, as those of a call on a process
abbrev pub LooksLead : World → State → State → Cache → Cache → Type 0
LooksLead world old now before after = CallsLead IsLook world old now before after

-- looks, pins and paths that are forgotten do
abbrev pub ChangesLead : World → State → State → Cache → Cache → Type 0
ChangesLead world old now before after = CallsLead IsChange world old now before after

-- in the cache of every format of sources, kept versions cohere with the world: equal stamps mean equal
-- bytes
pub record Coheres (state : State) (world : World) : Type 0 where
  pub breakpad : Coherent state.breakpad.kept world
  pub gsym : Coherent state.gsym.kept world
  pub elf : Coherent state.elf.kept world

-- a registration is true where it is of the bytes that lie at its path; any other call registers
-- nothing
abbrev pub RegistersTruly : World → Call → Type 0
RegistersTruly world (Register path bytes) = HasBytes (entry_at world path) bytes
RegistersTruly world _ = Unit {0}
