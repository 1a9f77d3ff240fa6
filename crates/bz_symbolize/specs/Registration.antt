-- Registering the file of a resolver as an ELF file that is there: what a call promises, and what comes
-- of it later.
use Rattle.std.specs.Prelude.{◌≡◌, ◌⊎◌, ℕ, cond, List, [], ◌∷◌, Option, Some, None, IsSome, Result, Ok, Err, IfErr, OnOk, OnErr}
use Rattle.std.specs.FinMap as map
use Rattle.bz_base.specs.InputKind.{AddressKind}
use Rattle.bz_base.specs.declared.error.Error.{Error}
use Rattle.bz_base.specs.declared.error.Error.TheVariants as errors
use Rattle.bz_base.specs.declared.types.FindSymOpts.{FindSymOpts}
use Rattle.bz_files.specs.Looked.{Faulted, Looked}
use Rattle.bz_files.specs.World.{World, Entry, Present, Told, in_view, entry_at}
use Rattle.bz_files.specs.declared.files.Files.{Ghosts}
use Rattle.bz_files.specs.declared.stamp.Stamp.{Stamp}
use Rattle.bz_cache.specs.Cache.{Cache}
use Rattle.bz_cache.specs.Format.{GivesOrFaults}
use Rattle.bz_cache.specs.Insertion.{insertion, MayKeepOut}
use Rattle.bz_cache.specs.Look.{look}
use Rattle.bz_cache.specs.View.{fixed}
use Rattle.bz_elf.specs.Format as elf
use Rattle.bz_lookups.specs.Formats.{elf_answering, elf_single, is_in_elf}
use Rattle.bz_symbolize.specs.FileCall.{batch_of, file_answer, query_asked, single_of}
use Rattle.bz_symbolize.specs.History.{Call, MayLeave, Register, state_after}
use Rattle.bz_symbolize.specs.Lookup.{elf_answer}
use Rattle.bz_symbolize.specs.State.{State, WellKept}

-- refused since there is a version already, or memory ran out
abbrev pub IsKeptOut : {A : Type 0} → Result A Error → Type 0
IsKeptOut (Err errors.AlreadyExists) = Unit {0}
IsKeptOut (Err errors.OutOfMemory) = Unit {0}
IsKeptOut _ = ⊥

-- all that a registration promises of its answer, its refusals, and the state and the files that it
-- leaves
pub record Registers {A X : Type 0} (files : Ghosts X) (path bytes : List ℕ) (result : Result A Error) (old now : State) (before after : X) : Type 0 where
  -- where it is told what lies at the path, the answer and the state that is left are those of the
  -- definitions
  pub answer : Told (in_view (files.worlds before)) (λ world. GivesOrFaults (λ _. tt) (insertion old.elf path bytes (entry_at world path)).0 result)
  pub state : Told (in_view (files.worlds before)) (λ world. OnOk result (now ≡ state_after old world (Register path bytes)))
  -- so the call is one of those whose lists keep versions coherent, where it is true
  pub history : Told (in_view (files.worlds before)) (λ world. MayLeave old world (Register path bytes) now)
  -- whatever is told, the bytes are kept as those of something that may lie there, and nothing else
  -- changes
  pub untold : OnOk result ((there : Option Entry) × (insertion old.elf path bytes there ≡ (Ok tt, now.elf)))
  pub rest : now ≡ record old { elf = now.elf }
  -- a refused call leaves the symbolizer as it was
  pub err : OnErr result (now ≡ old)
  -- a path that is held and isn't looked at anew has a version: the call is refused for it, or since
  -- memory ran out. The files are as they were
  pub kept_out : IsSome (fixed old.elf path) → IsKeptOut result × (after ≡ before)
  pub refusal : IfErr result (MayKeepOut old.elf path)
  pub caches : WellKept now
  -- of the files: they are only looked at, and none is read
  pub looked : Looked files before after (Faulted result)
  pub unopened : files.opens after ≡ files.opens before

-- the path is at the stamp: it is held there and isn't looked at anew, or a file with the stamp lies
-- there
abbrev pub IsAtStamp : Cache → World → List ℕ → Stamp → Type 0
IsAtStamp cache world path stamp = (fixed cache path ≡ Some stamp) ⊎ ((fixed cache path ≡ None) × ((bytes : List ℕ) × (entry_at world path ≡ Some (Present stamp bytes))))

-- the states that a list of calls may leave, each call in its own world, where an ELF file with the
-- stamp stays kept
abbrev pub MayReachKeeping : Stamp → State → List (World × Call) → State → Type 0
MayReachKeeping stamp start [] end = end ≡ start
MayReachKeeping stamp start (step ∷ later) end = (next : State) × MayLeave start step.0 step.1 next × IsSome (map.get next.elf.kept stamp) × MayReachKeeping stamp next later end

-- an ELF source at the path is answered by these bytes
pub record AnswersElf (state : State) (world : World) (path bytes : List ℕ) : Type 0 where
  pub looked : (look elf.format_test state.elf path (entry_at world path)).0 ≡ Ok bytes
  pub batch : (opts : FindSymOpts) (kind : AddressKind) (addrs : List ℕ) →
      file_answer (query_asked elf.format_test elf_answering opts path (batch_of kind addrs)) state.elf path (entry_at world path) ≡ elf_answer path kind addrs bytes
  pub single : (opts : FindSymOpts) (kind : AddressKind) (addr : ℕ) →
      file_answer (query_asked elf.format_test elf_answering opts path (single_of kind addr)) state.elf path (entry_at world path) ≡ cond (is_in_elf kind) (Ok (elf_single path bytes kind addr)) (Err errors.Unsupported)

-- what comes of a registration that was answered
pub record StaysRegistered (old : State) (world : World) (path bytes : List ℕ) : Type 0 where
  -- a file was at the path; its stamp keeps the registered bytes, whatever the file's own are, and the
  -- path is at that stamp
  pub stamp : Stamp
  pub there : List ℕ
  pub present : entry_at world path ≡ Some (Present stamp there)
  pub kept : map.get (state_after old world (Register path bytes)).elf.kept stamp ≡ Some bytes
  pub placed : IsAtStamp (state_after old world (Register path bytes)).elf world path stamp
  -- as long as the stamp stays kept, over any list of calls, every path that is at it is answered by
  -- the registered bytes
  pub answers : (calls : List (World × Call)) (now : State) (later : World) (other : List ℕ) →
      MayReachKeeping stamp (state_after old world (Register path bytes)) calls now → IsAtStamp now.elf later other stamp → AnswersElf now later other bytes
