-- What addresses of a process are answered where files tell nothing: by some version that a look gave,
-- or refused as a look is.
use Rattle.std.specs.Prelude.{◌≡◌, ◌⊎◌, ℕ, Bool, true, false, cond, List, [], ◌∷◌, Option, Some, None, Result, Ok, Err, IfErr, IsErr}
use Rattle.bz_base.specs.Answer.{Answer, Unknown, in_batch}
use Rattle.bz_base.specs.Refusals.{IsFailure}
use Rattle.bz_base.specs.declared.error.Error.{Error}
use Rattle.bz_base.specs.declared.error.Error.TheVariants as errors
use Rattle.bz_base.specs.declared.pid.Pid.{Pid}
use Rattle.bz_base.specs.declared.types.Reason.TheVariants as reasons
use Rattle.bz_files.specs.World.{World, Told}
use Rattle.bz_cache.specs.InsertMap.{value_at, with_absent}
use Rattle.bz_cache.specs.FileCall.{FileSome, Question}
use Rattle.bz_proc.specs.Maps.{Mapping, Name, File, Component, owner_of}
use Rattle.bz_proc.specs.PerfId.{IsOfStatus}
use Rattle.bz_proc.specs.SystemText.{IsReadRefusal}
use Rattle.bz_process.specs.Asked.{Asked}
use Rattle.bz_process.specs.Caches.{ProcessCaches}
use Rattle.bz_process.specs.Process.{Said, asks_elf, asks_perf_map, batched, offset_in, or_unknown, pid_cmp, remembered}
use Rattle.bz_process.specs.Remembered.{Remembered}

-- a result as plain data
abbrev pub as_read : {A B : Type 0} → (A → B) → Result A Error → Result B Error
as_read reading (Ok given) = Ok (reading given)
as_read reading (Err e) = Err e

-- what is remembered of a process: what was, or else what some status tells
abbrev pub IsKnown : Pid → ℕ → Option Remembered → Remembered → Type 0
IsKnown pid own (Some kept) known = known ≡ kept
IsKnown pid own None known = IsOfStatus pid own known.id × (known ≡ remembered pid own known.id)

-- a process that is remembered is known, but for want of memory; of another the status may be refused
abbrev pub MayLackId : Option Remembered → Error → Type 0
MayLackId kept errors.OutOfMemory = Unit {0}
MayLackId (Some kept) e = ⊥
MayLackId None e = IsReadRefusal e

-- what was given, and what is left of what was kept
module _ (given : Result Answer Error) (old now : ProcessCaches) where
  -- this is given without a look, and nothing has changed
  abbrev pub IsGiven : Result Answer Error → Type 0
  IsGiven expected = (given ≡ expected) × (now ≡ old)

  -- a version of the ELF file at the path answers, or a look at it is refused; nothing else has changed
  pub record LooksAtElf (question : Question Answer) (path : List ℕ) : Type 0 where
    pub untold : FileSome (λ (answer : Answer). answer) question path given old.elf now.elf
    pub rest : now ≡ record old { elf = now.elf }

  -- the process is known, and is remembered; a version of its perf map answers, or a look at that is
  -- refused
  pub record LooksByKnown (pid : Pid) (own addr : ℕ) : Type 0 where
    pub known : Remembered
    pub is_known : IsKnown pid own (value_at pid_cmp old.ids pid) known
    pub untold : FileSome (λ (answer : Answer). answer) (asks_perf_map addr) known.perf_map given old.perf_maps now.perf_maps
    pub rest : now ≡ record old { perf_maps = now.perf_maps; ids = with_absent pid_cmp old.ids pid known }

  -- the process isn't known, and nothing has changed
  pub record IsUnknown (pid : Pid) : Type 0 where
    pub refused : IsErr given
    pub refusal : IfErr given (MayLackId (value_at pid_cmp old.ids pid))
    pub unchanged : now ≡ old

  -- the perf map of the process is looked at, or the process isn't known
  abbrev pub LooksAtPerfMap : Pid → ℕ → ℕ → Type 0
  LooksAtPerfMap pid own addr = LooksByKnown pid own addr ⊎ IsUnknown pid

-- the same, where a file that is absent makes the address unknown
pub record LooksSoftly (given : Result Answer Error) (old now : ProcessCaches) (pid : Pid) (own addr : ℕ) : Type 0 where
  pub looked : Result Answer Error
  pub untold : LooksAtPerfMap looked old now pid own addr
  pub softened : given ≡ or_unknown looked

-- an address, by the mappings of its process
module _ (asked : Asked) (given : Result Answer Error) (old now : ProcessCaches) where
  abbrev pub SomeByAsked : Bool → ℕ → Type 0
  SomeByAsked true addr = LooksSoftly given old now asked.pid asked.own addr
  SomeByAsked false addr = IsGiven given old now (Ok (Unknown reasons.UnknownAddr))

  abbrev pub SomeByName : Mapping → ℕ → Name → Type 0
  SomeByName mapping addr (Component text) = IsGiven given old now (Ok (Unknown reasons.Unsupported))
  SomeByName mapping addr (File maps_file symbolic_path) = LooksAtElf given old now (asks_elf symbolic_path (offset_in mapping addr)) (cond asked.map_files maps_file symbolic_path)

  abbrev pub SomeBySaid : Mapping → ℕ → Name → Said → Type 0
  SomeBySaid mapping addr name (Some said) = IsGiven given old now said
  SomeBySaid mapping addr name None = SomeByName mapping addr name

  abbrev pub SomeByMapping : Mapping → ℕ → Said → Option Name → Type 0
  SomeByMapping mapping addr said None = SomeByAsked asked.perf_map addr
  SomeByMapping mapping addr said (Some name) = SomeBySaid mapping addr name said

  abbrev pub SomeByOwner : ℕ → Said → Option Mapping → Type 0
  SomeByOwner addr said None = IsGiven given old now (Ok (Unknown reasons.Unmapped))
  SomeByOwner addr said (Some mapping) = SomeByMapping mapping addr said mapping.name

  abbrev pub SomeAtAddress : List Mapping → ℕ × Said → Type 0
  SomeAtAddress mappings item = SomeByOwner item.0 item.1 (owner_of mappings item.0)

-- what was given is no failure
abbrev pub Unfailing : Result Answer Error → Type 0
Unfailing (Ok answer) = Unit {0}
Unfailing (Err e) = IsFailure e → ⊥

-- addresses one after another, each by what those before it left: their answers, where a refused
-- address is an ignored error; none has failed
abbrev pub SomeAtAddresses : Asked → List Mapping → List (ℕ × Said) → List Answer → ProcessCaches → ProcessCaches → Type 0
SomeAtAddresses asked mappings [] answers old now = (answers ≡ []) × (now ≡ old)
SomeAtAddresses asked mappings (item ∷ items) answers old now =
    (given : Result Answer Error) × (left : ProcessCaches) × (later : List Answer) × (answers ≡ in_batch given ∷ later)
    × (SomeAtAddress asked given old left mappings item × Unfailing given) × SomeAtAddresses asked mappings items later left now

-- memory ran out, and nothing has changed
pub record LacksMemory (e : Error) (old now : ProcessCaches) : Type 0 where
  pub memory : e ≡ errors.OutOfMemory
  pub unchanged : now ≡ old

-- no resolver reads a file, so none says that one failed
abbrev pub SaysNoFault : Said → Type 0
SaysNoFault (Some (Err errors.ReadFault)) = ⊥
SaysNoFault said = Unit {0}

-- the first of these addresses failed, and none after it was asked
abbrev pub FailsAtNext : Asked → List Mapping → List ℕ → Error → ProcessCaches → ProcessCaches → Type 0
FailsAtNext asked mappings [] e old now = ⊥
FailsAtNext asked mappings (addr ∷ later) e old now = (said : Said) × SaysNoFault said × SomeAtAddress asked (Err e) old now mappings (addr, said)

-- a batch failed: these addresses were answered one after another, and then memory ran out, or the next
-- one failed
pub record FailsInTurn (in_view : Option World) (asked : Asked) (mappings : List Mapping) (front : List (ℕ × Said)) (rest : List ℕ) (e : Error) (old now : ProcessCaches) : Type 0 where
  pub failure : IsFailure e
  pub answers : List Answer
  pub middle : ProcessCaches
  pub untold : SomeAtAddresses asked mappings front answers old middle
  -- where the world is told, these addresses left what is expected
  pub told : Told in_view (λ world. middle ≡ (batched asked mappings front world old).left)
  pub ends : LacksMemory e middle now ⊎ FailsAtNext asked mappings rest e middle now

-- a batch as a whole: its answers are those of its addresses, or it failed
abbrev pub SomeBatch : {A : Type 0} → Option World → (A → List Answer) → Asked → List Mapping → List (ℕ × Said) → List ℕ → Result A Error → ProcessCaches → ProcessCaches → Type 0
SomeBatch in_view reading asked mappings front rest (Ok given) old now = SomeAtAddresses asked mappings front (reading given) old now
SomeBatch in_view reading asked mappings front rest (Err e) old now = FailsInTurn in_view asked mappings front rest e old now
