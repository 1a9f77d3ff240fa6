-- What a call of a symbolizer promises, in the words of the subject, whether a batch or a single
-- address is asked.
use Rattle.std.specs.Prelude.{◌≡◌, ◌⊎◌, ℕ, true, false, List, Option, Some, IsSome, Result, Ok, Err, IfOk, IfErr, IsErrOf, OnOk, string_bytes}
use Rattle.bz_base.specs.Answer.{Answer, Gives}
use Rattle.bz_base.specs.InputKind.{AddressKind}
use Rattle.bz_base.specs.declared.error.Error.{Error}
use Rattle.bz_base.specs.declared.error.Error.TheVariants as errors
use Rattle.bz_base.specs.declared.types.FindSymOpts.{FindSymOpts}
use Rattle.bz_files.specs.World.{World, Entry, Told, in_view, entry_at}
use Rattle.bz_files.specs.declared.files.Files.{Ghosts}
use Rattle.bz_files.specs.Looked.{Faulted, Looked, ReadsOne}
use Rattle.bz_cache.specs.Coherence.{Coherent}
use Rattle.bz_cache.specs.Cache.{kept_at}
use Rattle.bz_cache.specs.Format.{GivesOrFaults}
use Rattle.bz_cache.specs.Look.{look, opens_after}
use Rattle.bz_cache.specs.View.{Shown, fixed, view}
use Rattle.bz_breakpad.specs.Grammar.{IsFile}
use Rattle.bz_breakpad.specs.Plain.{batch, plain}
use Rattle.bz_breakpad.specs.Table.{Table}
use Rattle.bz_elf.specs.Profile.{IsElf}
use Rattle.bz_gsym.specs.Tables.{IsGsym}
use Rattle.bz_lookups.specs.Formats.{elf_batch, elf_single, gsym_batch, gsym_single, handed_answer, is_in_elf}
use Rattle.bz_symbolize.specs.FileCall.{CallsFile, Leaves, MayBeRefused, Query, view_answer}
use Rattle.bz_symbolize.specs.History.{MayLeave, Symbolize}
use Rattle.bz_symbolize.specs.Lookup.{answer_of, state_of, opens_of}
use Rattle.bz_symbolize.specs.Sources.{FileSource, SourceForm, OnFile, OnHanded, UnlessProcess, asked_of, form_of}
use Rattle.bz_symbolize.specs.State.{State, WellKept, opts_of}
use Rattle.bz_symbolize.specs.declared.source.Source.{Source}
use Rattle.bz_symbolize.specs.declared.source.Source.TheVariants as sources

-- the bytes are a Breakpad file, and the answers are the plain answers of its table, each at its own
-- address, in order
pub record IsBreakpadBatch (opts : FindSymOpts) (bytes addrs : List ℕ) (answers : List Answer) : Type 0 where
  pub table : Table
  pub accepted : IsFile bytes table
  pub plain : answers ≡ batch table opts addrs

-- the bytes are a Breakpad file. The answer, or the refusal, is what the query makes of the plain
-- answers of its table at each address alone
pub record IsBreakpadAnswer {B : Type 0} (opts : FindSymOpts) (bytes : List ℕ) (query : Query B) (answer : Result B Error) : Type 0 where
  pub table : Table
  pub accepted : IsFile bytes table
  pub plain : query.given (plain table opts) ≡ answer

-- the bytes are a GSYM file, and the answers are its plain ones, each at its own address, in order
pub record IsGsymBatch (opts : FindSymOpts) (bytes addrs : List ℕ) (answers : List Answer) : Type 0 where
  pub accepted : IsGsym bytes
  pub plain : answers ≡ gsym_batch opts bytes addrs

-- the bytes are a GSYM file, and the answer, or the refusal, is what the query makes of its answers at
-- each address alone
pub record IsGsymAnswer {B : Type 0} (opts : FindSymOpts) (bytes : List ℕ) (query : Query B) (answer : Result B Error) : Type 0 where
  pub accepted : IsGsym bytes
  pub plain : query.given (gsym_single opts bytes) ≡ answer

-- the bytes are an ELF file, which answers the kind of address. The answers are those of its symbol
-- table, each at its own address, in order; the path names their module
pub record IsElfBatch (path bytes : List ℕ) (kind : AddressKind) (addrs : List ℕ) (answers : List Answer) : Type 0 where
  pub accepted : IsElf bytes
  pub served : is_in_elf kind ≡ true
  pub plain : answers ≡ elf_batch path bytes kind addrs

-- the bytes are an ELF file, which answers the kind of address. The answer is what the query makes of
-- its answers at each address alone
pub record IsElfAnswer {B : Type 0} (path bytes : List ℕ) (query : Query B) (answer : Result B Error) : Type 0 where
  pub accepted : IsElf bytes
  pub served : is_in_elf query.kind ≡ true
  pub plain : query.given (λ addr. Ok (elf_single path bytes query.kind addr)) ≡ answer

-- the bytes are a version of the source, which answers the query so, or refuses it, in the words of its
-- format. A process has no version
abbrev pub IsAnswerOf : {B : Type 0} → Source → FindSymOpts → List ℕ → Query B → Result B Error → Type 0
IsAnswerOf (sources.Breakpad source) opts bytes query answer = IsBreakpadAnswer opts bytes query answer
IsAnswerOf (sources.Gsym source) opts bytes query answer = IsGsymAnswer opts bytes query answer
IsAnswerOf (sources.Elf source) opts bytes query answer = IsElfAnswer (string_bytes source.path) bytes query answer
IsAnswerOf (sources.Process source) opts bytes query answer = ⊥

-- the bytes are a version of the source, in the words of the source's format; a process has none
abbrev pub IsVersionOf : Source → List ℕ → Type 0
IsVersionOf (sources.Breakpad source) bytes = (table : Table) × IsFile bytes table
IsVersionOf (sources.Gsym source) bytes = IsGsym bytes
IsVersionOf (sources.Elf source) bytes = IsElf bytes
IsVersionOf (sources.Process source) bytes = ⊥

-- the version in view at the path gives this answer
pub record AnswersView {B : Type 0} (opts : FindSymOpts) (source : Source) (file : FileSource) (state : State) (world : World) (query : Query B) (answer : B) : Type 0 where
  pub bytes : List ℕ
  pub in_view : view (file.cache state) world file.path ≡ Shown bytes
  pub answered : IsAnswerOf source opts bytes query (Ok answer)

-- the version that a look at the path gives answers so, or refuses so. It is the kept bytes of the
-- path's present stamp, else the present bytes
pub record AnswersLook {B : Type 0} (opts : FindSymOpts) (source : Source) (file : FileSource) (state : State) (world : World) (query : Query B) (answer : Result B Error) : Type 0 where
  pub bytes : List ℕ
  pub looked : (look file.test (file.cache state) file.path (entry_at world file.path)).0 ≡ Ok bytes
  pub answered : IsAnswerOf source opts bytes query answer

-- the path is held, and the version kept for its current stamp gives this answer, or this refusal
pub record AnswersKept {B : Type 0} (opts : FindSymOpts) (source : Source) (file : FileSource) (state : State) (query : Query B) (answer : Result B Error) : Type 0 where
  pub bytes : List ℕ
  pub kept : kept_at (file.cache state) file.path ≡ Some bytes
  pub answered : IsAnswerOf source opts bytes query answer

-- a call where the world in view is told
pub record CallTold {A B : Type 0} (reading : A → B) (opts : FindSymOpts) (form : SourceForm) (query : Query B)
    (result : Result A Error) (old now : State) (world : World) (before after : ℕ) : Type 0 where
  -- its answer, and the state that it leaves
  pub answer : GivesOrFaults reading (answer_of opts old form query world) result
  pub state : Leaves result old (state_of old form query.kind world) now
  -- a file is read where it has to be, and else not
  pub opened : OnOk result (after ≡ opens_after (opens_of old form query.kind world) before)
  pub spared : opens_of old form query.kind world ≡ false → after ≡ before

-- a refusal leaves the old state, unless memory ran out or what is asked is itself refused by the
-- version that is kept now
abbrev pub LeavesOld : {A B : Type 0} → FindSymOpts → Source → FileSource → Query B → Result A Error → State → State → Type 0
LeavesOld opts source file query (Ok given) old now = Unit {0}
LeavesOld opts source file query (Err errors.OutOfMemory) old now = Unit {0}
LeavesOld opts source file query (Err e) old now = (now ≡ old) ⊎ AnswersKept opts source file now query (Err e)

-- the state is the one after some look at the path: nothing else in it has changed
abbrev pub IsAfterSomeLook : FileSource → State → State → Type 0
IsAfterSomeLook file old now = (there : Option Entry) × (now ≡ file.with_cache old (look file.test (file.cache old) file.path there).1)

-- whatever is told and answered, what a call on one file leaves
pub record FileLeaves {A B : Type 0} (opts : FindSymOpts) (source : Source) (file : FileSource) (query : Query B) (result : Result A Error) (old now : State) : Type 0 where
  -- the old state, or the one after some look at the path
  pub one_look : (now ≡ old) ⊎ IsAfterSomeLook file old now
  -- a refusal leaves the old one, where the kind of address isn't refused after the look
  pub on_refusal : file.answering.takes query.kind ≡ file.answering.serves query.kind → LeavesOld opts source file query result old now
  -- a failed read leaves the old one, whatever the kind of address
  pub on_fault : IsErrOf result errors.ReadFault → now ≡ old
  -- where memory ran out, the path is kept or nothing has changed
  pub out_of_memory : IsErrOf result errors.OutOfMemory → (now ≡ old) ⊎ IsSome (kept_at (file.cache now) file.path)

-- the kind of address is taken and served, and the version in view at the path is one of the source's
-- format
pub record IsValid (source : Source) (file : FileSource) (state : State) (world : World) (kind : AddressKind) : Type 0 where
  pub bytes : List ℕ
  pub takes : file.answering.takes kind ≡ true
  pub serves : file.answering.serves kind ≡ true
  pub in_view : view (file.cache state) world file.path ≡ Shown bytes
  pub formed : IsVersionOf source bytes

-- the call is answered, or refused as the version that a look gives itself refuses what is asked. Or a
-- file failed, or memory ran out
abbrev pub IsServedOrFails : {A B : Type 0} → FindSymOpts → Source → FileSource → State → World → Query B → Result A Error → Type 0
IsServedOrFails opts source file state world query (Ok given) = Unit {0}
IsServedOrFails opts source file state world query (Err errors.ReadFault) = Unit {0}
IsServedOrFails opts source file state world query (Err errors.OutOfMemory) = Unit {0}
IsServedOrFails opts source file state world query (Err e) = AnswersLook opts source file state world query (Err e)

-- the call is answered, or refused as the version that is kept now itself refuses what is asked; unless
-- memory ran out
abbrev pub IsServedKept : {A B : Type 0} → FindSymOpts → Source → FileSource → Query B → Result A Error → State → Type 0
IsServedKept opts source file query (Ok given) now = Unit {0}
IsServedKept opts source file query (Err errors.OutOfMemory) now = Unit {0}
IsServedKept opts source file query (Err e) now = AnswersKept opts source file now query (Err e)

-- the kind of address isn't taken, or no version answers it
abbrev pub IsUnserved : FileSource → AddressKind → Type 0
IsUnserved file kind = (file.answering.takes kind ≡ false) ⊎ (file.answering.serves kind ≡ false)

-- what is asked is itself refused so by some bytes in the source's format
abbrev pub IsOwnRefusal : {B : Type 0} → Source → FindSymOpts → Query B → Error → Type 0
IsOwnRefusal source opts query e = (bytes : List ℕ) × IsAnswerOf source opts bytes query (Err e)

-- all that a call promises of its answer, its refusals, and the state and the files that it leaves. Of
-- a process this is said of the kept files alone, and a record of its own says the rest
pub record Symbolizes {A B X : Type 0} (files : Ghosts X) (reading : A → B) (source : Source) (query : Query B)
    (result : Result A Error) (old now : State) (before after : X) : Type 0 where
  -- where kept versions cohere with the world in view, the version in view is answered
  pub view : OnFile source (λ file. Told (in_view (files.worlds before)) (λ world. Coherent (file.cache old).kept world →
      IfOk result (λ given. AnswersView (opts_of old.settings) source file old world query (reading given))))
  -- whether or not they do, the version that a look gives is answered
  pub look : OnFile source (λ file. Told (in_view (files.worlds before)) (λ world.
      IfOk result (λ given. AnswersLook (opts_of old.settings) source file old world query (Ok (reading given)))))
  -- whether or not the files tell what they hold, the kept version is answered
  pub kept : OnFile source (λ file. IfOk result (λ given. AnswersKept (opts_of old.settings) source file now query (Ok (reading given))))
  -- where kept versions cohere with the world in view, each refusal has its cause in the view
  pub causes : OnFile source (λ file. Told (in_view (files.worlds before)) (λ world. Coherent (file.cache old).kept world →
      GivesOrFaults reading (view_answer (asked_of file (opts_of old.settings) query) (file.cache old) world file.path) result))
  -- a served kind of address is answered wherever a version of the source's format is in view, unless
  -- something fails. Or it is refused as the version that a look gives itself refuses what is asked
  pub complete : OnFile source (λ file. Told (in_view (files.worlds before)) (λ world.
      IsValid source file old world query.kind → IsServedOrFails (opts_of old.settings) source file old world query result))
  -- the answer, the state that is left and the file that is read are those of the definitions, but for
  -- a process
  pub told : Told (in_view (files.worlds before)) (λ world. UnlessProcess source (CallTold reading (opts_of old.settings) (form_of source) query result old now world (files.opens before) (files.opens after)))
  -- so the call is one of those whose lists keep versions coherent
  pub history : Told (in_view (files.worlds before)) (λ world. UnlessProcess source (MayLeave old world (Symbolize source query.kind) now))
  -- whatever is told and answered, the state is the old one, or the one after some look at the path
  pub leaves : OnFile source (λ file. FileLeaves (opts_of old.settings) source file query result old now)
  -- bytes that are handed in are answered with no look, and nothing changes
  pub handed : OnHanded source (λ given. Gives reading (handed_answer given (opts_of old.settings) query) result × (now ≡ old) × (after ≡ before))
  -- a kind of address that isn't taken is refused before any look
  pub untaken : OnFile source (λ file. file.answering.takes query.kind ≡ false → IsErrOf result errors.Unsupported × (now ≡ old) × (after ≡ before))
  -- a path that is held and isn't looked at anew stays as it is, and answers each kind that is served
  pub stays : OnFile source (λ file. IsSome (fixed (file.cache old) file.path) → (now ≡ old) × (after ≡ before))
  pub ready : OnFile source (λ file. IsSome (fixed (file.cache old) file.path) → file.answering.takes query.kind ≡ true →
      file.answering.serves query.kind ≡ true → IsServedKept (opts_of old.settings) source file query result now)
  -- whatever is told, a refusal is `Unsupported` of a kind of address that isn't served, or that of a
  -- look or of the source's format. Else some bytes in this format themselves refuse what is asked so
  pub refusal : OnFile source (λ file. IfErr result (λ e. MayBeRefused (IsUnserved file query.kind) file.test e ⊎ IsOwnRefusal source (opts_of old.settings) query e))
  pub settings : now.settings ≡ old.settings
  pub caches : WellKept now
  -- of the files: they are only looked at, and one at most is read
  pub looked : Looked files before after (Faulted result)
  pub most : OnFile source (λ file. ReadsOne files before after)

-- of these, what follows from nothing else: what the call does on the source's file, and that nothing
-- else changes
pub record AsksSource {A B X : Type 0} (files : Ghosts X) (reading : A → B) (source : Source) (opts : FindSymOpts) (query : Query B)
    (result : Result A Error) (old now : State) (before after : X) : Type 0 where
  pub called : OnFile source (λ file. CallsFile files reading (asked_of file opts query) file.path result (file.cache old) (file.cache now) before after)
  pub handed : OnHanded source (λ given. Gives reading (handed_answer given opts query) result × (now ≡ old) × (after ≡ before))
  pub rest : OnFile source (λ file. now ≡ file.with_cache old (file.cache now))
  pub settings : now.settings ≡ old.settings
  -- before the call and after it what is kept is well kept
  pub kept_well : WellKept old
  pub caches : WellKept now
  pub looked : Looked files before after (Faulted result)
