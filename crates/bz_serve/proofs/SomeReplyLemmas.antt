-- What is said to a request whatever the files tell, from what the calls of the symbolizer promise.
use Rattle.std.proofs.Common.{String, Global, string_bytes, ◌≡◌, ◌⊎◌, ℕ, Bool, true, List, [], ◌∷◌, Option, Some, None, Result, Ok, Err, IfOk, refl, sym, ap, subst, inl, inr}
use Rattle.std.proofs.lemmas.Bool.{false≢true}
use Rattle.bz_base.specs.Answer.{Answer}
use Rattle.bz_base.specs.InputKind.{InFile, InProcess, InTable}
use Rattle.bz_base.specs.Refusals.{IsFailure}
use Rattle.bz_base.specs.declared.error.Error.{Error}
use Rattle.bz_base.specs.declared.error.Error.TheVariants as errors
use Rattle.bz_base.specs.declared.resolve.Symbolize.{Ghosts as Finds}
use Rattle.bz_base.specs.declared.resolve.TranslateFileOffset.{Ghosts as Translates}
use Rattle.bz_base.specs.declared.types.FindSymOpts.{FindSymOpts}
use Rattle.bz_base.specs.declared.types.FindSymOpts.TheVariants.{Basic}
use Rattle.bz_files.specs.declared.files.Files as files_trait
use Rattle.bz_cache.specs.Format.{MayFail}
use Rattle.bz_proc.specs.Maps.{Mapping}
use Rattle.bz_proc.specs.SystemText.{IsReadRefusal}
use Rattle.bz_process.specs.Asked.{Asked, asked_of}
use Rattle.bz_process.specs.Caches.{ProcessCaches}
use Rattle.bz_process.specs.Dispatch.{DispatchAnswers, Test}
use Rattle.bz_process.specs.Mapped.{AsksProcess, IsByMappings, LacksMappings, RefusedUnmapped, if_some}
use Rattle.bz_process.specs.ProcessAsk.{GivesNone}
use Rattle.bz_process.specs.ProcessCall.{UnlessFailed}
use Rattle.bz_process.specs.Processes.{SymbolizesAddress, SymbolizesProcess, caches_of, kept_mappings}
use Rattle.bz_process.specs.declared.query.ProcessQuery.{ProcessQuery}
use Rattle.bz_symbolize.specs.Caching.{CachesAsAsked}
use Rattle.bz_symbolize.specs.Evicting.{evicting}
use Rattle.bz_symbolize.specs.FileCall.{MayBeRefused, Query, batch_of, single_of}
use Rattle.bz_symbolize.specs.OfProcess.{AddressOfProcess, BatchOfProcess}
use Rattle.bz_symbolize.specs.Promise.{AnswersKept, IsOwnRefusal, IsUnserved, Symbolizes}
use Rattle.bz_symbolize.specs.Requests.{ToCache, ToEvict, CacheElf as KeepElf, CacheProcess as KeepProcess, EvictElf as ForgetElf, EvictProcess as ForgetProcess, cache_read}
use Rattle.bz_symbolize.specs.Sources.{OnFile, OneProcess, OnProcessForm, SourceForm, form_of}
use Rattle.bz_symbolize.specs.State.{State, WholeState, opts_of}
use Rattle.bz_symbolize.specs.declared.cache.Cache.{Cache}
use Rattle.bz_symbolize.specs.declared.cache.Cache.TheVariants as caches
use Rattle.bz_symbolize.specs.declared.source.Breakpad as breakpads
use Rattle.bz_symbolize.specs.declared.source.Elf as elves
use Rattle.bz_symbolize.specs.declared.source.Gsym.TheVariants as gsyms
use Rattle.bz_symbolize.specs.declared.source.GsymFile as gsym_files
use Rattle.bz_symbolize.specs.declared.source.Source.{Source}
use Rattle.bz_symbolize.specs.declared.source.Source.TheVariants as sources
use Rattle.bz_requests.specs.Requests.{Batch, Single, Target, Breakpad, Elf, Gsym, Process as OfProcess, target_of, usual_kind}
use Rattle.bz_requests.specs.declared.requests.Target as made
use Rattle.bz_requests.specs.declared.requests.Target.TheVariants as made_targets
use Rattle.bz_canon.specs.AnswerText.{answer_text, answer_texts}
use Rattle.bz_symq.specs.Command.{FileTarget, Breakpad as BreakpadFile, Elf as ElfFile, Gsym as GsymFile}
use Rattle.bz_symq.specs.Processes.{pid_of}
use Rattle.bz_symq.specs.Reply.{IsSomeCauseOrFails, text_of}
use Rattle.bz_symq.specs.Targets.{IsSomeFileCause, IsSomeProcessCause, IsSourceOf, file_takes}
use Rattle.bz_symq.specs.declared.reply.Said.{Said}
use Rattle.bz_symq.proofs.CauseLemmas.{file_causes}
use Rattle.bz_symq.proofs.TargetLemmas.{by_source}
use Rattle.bz_serve.specs.RequestSteps.{okay, query_by, target_form}
use Rattle.bz_serve.specs.Serving.{AreKeptOfText, Says, SaysRefusal}
use Rattle.bz_serve.specs.SomeReplies.{AreSomeGiven, Circumstances, FileMaySay, IsAddressCause, IsAskedCause, IsSomeAnswer, IsSomeGiven, IsSomeKeepingCause, IsSomeReadCause, IsSourceFor, KeepingMaySay, MayReply, ProcessMaySay, ProcessMaySayAlone, SaysSome}
use Rattle.bz_serve.proofs.KeptTextLemmas.{used_of_text}

-- What is said.

module _ {B : Type 0} (texts : B → List ℕ) (Given : B → Type 0) (Cause : Error → Type 0) where
  -- what is given is said by its text
  pub says_given : (given : B) (result : Result Said Error) → Given given → Says (texts given) result → IfOk result (λ say. SaysSome texts Given Cause (text_of say))
  says_given given (Ok say) such says = inl (given, such, says)
  says_given given (Err e) such says = tt

  -- and a refusal by its name
  pub says_refused : (error : Error) (result : Result Said Error) → IsSomeCauseOrFails Cause error → SaysRefusal error result → IfOk result (λ say. SaysSome texts Given Cause (text_of say))
  says_refused errors.ReadFault (Ok say) cause says = cc
  says_refused errors.OutOfMemory (Ok say) cause says = cc
  says_refused error (Ok say) cause says = inr (record { refusal = error; cause = cause; text_is = says })
  says_refused error (Err e) cause says = tt

-- a cause is one, whether or not something failed
or_fails : (Cause : Error → Type 0) (e : Error) → Cause e → IsSomeCauseOrFails Cause e
or_fails Cause errors.ReadFault is = tt
or_fails Cause errors.OutOfMemory is = tt
or_fails Cause e is = is

-- one cause for another
cause_as : (Cause Other : Error → Type 0) (e : Error) → ((e : Error) → Cause e → Other e) → IsSomeCauseOrFails Cause e → IsSomeCauseOrFails Other e
cause_as Cause Other errors.ReadFault follows is = tt
cause_as Cause Other errors.OutOfMemory follows is = tt
cause_as Cause Other e follows is = follows e is

-- something failed
cause_failed : (Cause : Error → Type 0) (e : Error) → IsFailure e → IsSomeCauseOrFails Cause e
cause_failed Cause errors.ReadFault failed = tt
cause_failed Cause errors.OutOfMemory failed = tt
cause_failed Cause _ failed = absurd failed

-- a refusal of a call
abbrev refused_so : Error → Result (Unit {0}) Error
refused_so e = Err e

-- Files.

module _ {B : Type 0} (opts : FindSymOpts) (query : Query B) where
  -- what the symbolizer keeps is what it answers, so some bytes in the format do
  module _ (now : State) (given : B) where
    abbrev pub IsKeptAnswer : Source → Type 0
    IsKeptAnswer source = OnFile source (λ kept. AnswersKept opts source kept now query (Ok given))

    abbrev AnswersAs : FileTarget → Source → Type 0
    AnswersAs file source = IsKeptAnswer source → IsSomeAnswer opts file query (Ok given)

    breakpad_answers : (source : breakpads.Breakpad) → AnswersAs (BreakpadFile (string_bytes source.path)) (sources.Breakpad source)
    breakpad_answers source kept = (kept.bytes, kept.answered)

    gsym_answers : (source : gsym_files.GsymFile) → AnswersAs (GsymFile (string_bytes source.path)) (sources.Gsym (gsyms.File source))
    gsym_answers source kept = (kept.bytes, kept.answered)

    elf_answers : (source : elves.Elf) → AnswersAs (ElfFile (string_bytes source.path)) (sources.Elf source)
    elf_answers source kept = (kept.bytes, kept.answered)

    pub some_answered : (file : FileTarget) (source : Source) → IsSourceOf file source → AnswersAs file source
    some_answered file source is = by_source AnswersAs breakpad_answers gsym_answers elf_answers file source is

  -- a refusal is for a cause of the file, or as some bytes in the format refuse what is asked
  module _ (e : Error) where
    abbrev pub MayRefuse : Source → Type 0
    MayRefuse source = OnFile source (λ kept. MayBeRefused (IsUnserved kept query.kind) kept.test e ⊎ IsOwnRefusal source opts query e)

    abbrev HasCause : FileTarget → Source → Type 0
    HasCause file source = file_takes file query.kind ≡ true → MayRefuse source → IsSomeCauseOrFails (λ e. IsAskedCause opts file query e) e

    own_cause : (file : FileTarget) → IsSomeCauseOrFails (IsSomeFileCause file) e → IsSomeCauseOrFails (λ e. IsAskedCause opts file query e) e
    own_cause file is = cause_as (IsSomeFileCause file) (λ e. IsAskedCause opts file query e) e (λ other cause. inl cause) is

    breakpad_cause : (source : breakpads.Breakpad) → HasCause (BreakpadFile (string_bytes source.path)) (sources.Breakpad source)
    breakpad_cause source took (inl may) =
        own_cause (BreakpadFile (string_bytes source.path)) (file_causes opts [] query.kind (BreakpadFile (string_bytes source.path)) (sources.Breakpad source) (refused_so e) refl took (inl may))
    breakpad_cause source took (inr own) = or_fails (λ e. IsAskedCause opts (BreakpadFile (string_bytes source.path)) query e) e (inr (own.0, own.1))

    gsym_cause : (source : gsym_files.GsymFile) → HasCause (GsymFile (string_bytes source.path)) (sources.Gsym (gsyms.File source))
    gsym_cause source took (inl may) =
        own_cause (GsymFile (string_bytes source.path)) (file_causes opts [] query.kind (GsymFile (string_bytes source.path)) (sources.Gsym (gsyms.File source)) (refused_so e) refl took (inl may))
    gsym_cause source took (inr own) = or_fails (λ e. IsAskedCause opts (GsymFile (string_bytes source.path)) query e) e (inr (own.0, own.1))

    elf_cause : (source : elves.Elf) → HasCause (ElfFile (string_bytes source.path)) (sources.Elf source)
    elf_cause source took (inl may) =
        own_cause (ElfFile (string_bytes source.path)) (file_causes opts [] query.kind (ElfFile (string_bytes source.path)) (sources.Elf source) (refused_so e) refl took (inl may))
    elf_cause source took (inr own) = or_fails (λ e. IsAskedCause opts (ElfFile (string_bytes source.path)) query e) e (inr (own.0, own.1))

    pub some_cause : (file : FileTarget) (source : Source) → IsSourceOf file source → HasCause file source
    some_cause file source is = by_source HasCause breakpad_cause gsym_cause elf_cause file source is

  -- so that is what is said
  module _ (texts : B → List ℕ) (file : FileTarget) (source : Source) (result : Result Said Error) (is : IsSourceOf file source) where
    pub file_given : (now : State) (given : B) → IsKeptAnswer now given source → Says (texts given) result → IfOk result (λ say. FileMaySay texts opts file query (text_of say))
    file_given now given kept says =
        says_given texts (λ given. IsSomeAnswer opts file query (Ok given)) (λ e. IsAskedCause opts file query e) given result (some_answered now given file source is kept) says

    pub file_refused : (e : Error) → file_takes file query.kind ≡ true → MayRefuse e source → SaysRefusal e result → IfOk result (λ say. FileMaySay texts opts file query (text_of say))
    file_refused e took may says =
        says_refused texts (λ given. IsSomeAnswer opts file query (Ok given)) (λ e. IsAskedCause opts file query e) e result (some_cause e file source is took may) says

-- what is said for the file that a target is, where it is one, is said for the target
pub some_by_file : (opts : FindSymOpts) (target : made.Target) (addrs : List ℕ) (source : Source) (result : Result Said Error) → IsSourceFor (target_of target) source →
    ((path : String Global) × (target ≡ made_targets.Breakpad path)) ⊎ (((path : String Global) × (target ≡ made_targets.Gsym path)) ⊎ ((path : String Global) × (target ≡ made_targets.Elf path))) →
    ((file : FileTarget) → IsSourceOf file source → file_takes file (usual_kind (target_of target)) ≡ true →
    IfOk result (λ say. FileMaySay (answer_texts addrs) opts file (batch_of (usual_kind (target_of target)) addrs) (text_of say))) →
    IfOk result (λ say. MayReply opts (Batch (target_of target) addrs) (text_of say))
some_by_file opts (made_targets.Breakpad path) addrs source result source_is is holds = holds (BreakpadFile (string_bytes path)) source_is refl
some_by_file opts (made_targets.Gsym path) addrs source result source_is is holds = holds (GsymFile (string_bytes path)) source_is refl
some_by_file opts (made_targets.Elf path) addrs source result source_is is holds = holds (ElfFile (string_bytes path)) source_is refl
some_by_file opts (made_targets.Process number) addrs source result source_is (inl is) holds = cc is.1
some_by_file opts (made_targets.Process number) addrs source result source_is (inr (inl is)) holds = cc is.1
some_by_file opts (made_targets.Process number) addrs source result source_is (inr (inr is)) holds = cc is.1

-- and what is said for the process that it is, where it is one
pub some_by_process : (opts : FindSymOpts) (map_files : Bool) (target : made.Target) (addrs : List ℕ) (source : Source) (result : Result Said Error) → form_of source ≡ target_form map_files (target_of target) →
    (number : ℕ) → target ≡ made_targets.Process number →
    ((map_files : Bool) (number : ℕ) → form_of source ≡ OneProcess (query_by map_files number) → IfOk result (λ say. ProcessMaySay number addrs (text_of say))) →
    IfOk result (λ say. MayReply opts (Batch (target_of target) addrs) (text_of say))
some_by_process opts map_files target addrs source result form number is holds =
    subst (λ (target : made.Target). IfOk result (λ say. MayReply opts (Batch (target_of target) addrs) (text_of say))) (sym is) (holds map_files number (rw is at form))

-- Addresses of a process.

-- mappings are lacked only where there are none
only_eof : (mappings : List Mapping) (e : Error) → if_some mappings ≡ Err e → e ≡ errors.UnexpectedEof
only_eof [] e is = cc
only_eof (mapping ∷ later) e is = cc

lacks_cause : (kept : Option (List Mapping)) (e : Error) → LacksMappings kept e → IsSomeCauseOrFails IsSomeProcessCause e
lacks_cause kept errors.NotFound lacks = tt
lacks_cause kept errors.PermissionDenied lacks = tt
lacks_cause kept errors.InvalidData lacks = tt
lacks_cause kept errors.UnexpectedEof lacks = tt
lacks_cause kept errors.ReadFault lacks = tt
lacks_cause kept errors.OutOfMemory lacks = tt
lacks_cause None errors.Unsupported lacks = absurd lacks
lacks_cause None errors.InvalidInput lacks = absurd lacks
lacks_cause None errors.AlreadyExists lacks = absurd lacks
lacks_cause (Some mappings) errors.Unsupported lacks = let same = only_eof mappings errors.Unsupported lacks in cc
lacks_cause (Some mappings) errors.InvalidInput lacks = let same = only_eof mappings errors.InvalidInput lacks in cc
lacks_cause (Some mappings) errors.AlreadyExists lacks = let same = only_eof mappings errors.AlreadyExists lacks in cc

module _ {A R X : Type 0} (files : files_trait.Ghosts X) (reading : A → List Answer) (test : Test R) (translates : Translates R) (finds : Finds R) (opts : FindSymOpts) (asked : Asked) (kept : Option (List Mapping)) (addrs : List ℕ)
    (old now : ProcessCaches) (answers answers_now : DispatchAnswers R) (before after : X) where
  abbrev AsksSo : Result A Error → Type 0
  AsksSo result = AsksProcess files reading test translates finds opts asked kept addrs result old now answers answers_now before after

  -- a batch that isn't answered lacks mappings, or something failed
  batch_cause : (e : Error) → AsksSo (Err e) → IsSomeCauseOrFails IsSomeProcessCause e
  batch_cause e asks = elim asks.used [
    | inl mapped ↦ cause_failed IsSomeProcessCause e mapped.1.failure
    | inr unmapped ↦ lacks_cause kept e unmapped.refusal
  ]

-- what a process was asked under in a call
abbrev under : {D R : Type 0} → ℕ → Bool → WholeState D R → WholeState D R → Circumstances
under own map_files old now = record {
  own = own;
  map_files = map_files;
  old = caches_of old.files.elf old.processes;
  now = caches_of now.files.elf now.processes;
}

module _ {A D R X : Type 0} (looks : files_trait.Ghosts X) (reading : A → List Answer) (test : Test R) (translates : Translates R) (finds : Finds R) (source : Source) (map_files : Bool) (number : ℕ)
    (is : form_of source ≡ OneProcess (query_by map_files number)) (addrs : List ℕ) (old now : WholeState D R) (before after : X) where
  abbrev BatchSo : Result A Error → Type 0
  BatchSo result = BatchOfProcess looks reading test translates finds source InProcess addrs result old now before after

  abbrev AsksOf : Result A Error → ProcessQuery → Type 0
  AsksOf result query = SymbolizesProcess looks reading test translates finds (opts_of old.files.settings) (asked_of (looks.pid before) query) InProcess addrs result old.files.elf now.files.elf old.processes now.processes before after

  of_form : (result : Result A Error) → BatchSo result → AsksOf result (query_by map_files number)
  of_form result promise = subst (λ (f : SourceForm). OnProcessForm f (AsksOf result)) is promise.asked

  pub process_given : (given : A) → BatchSo (Ok given) → GivesNone test → AreKeptOfText old.processes.mappings → AreSomeGiven number addrs (reading given)
  process_given given promise none kept =
      let by = (of_form (Ok given) promise).untold none refl in (
        under (looks.pid before) map_files old now,
        record { mappings = by.mappings; used = used_of_text (pid_of number) old.processes.mappings by.mappings kept by.used; untold = by.untold },
      )

  pub process_refused : (e : Error) (result : Result Said Error) → BatchSo (Err e) → SaysRefusal e result → IfOk result (λ say. ProcessMaySay number addrs (text_of say))
  process_refused e result promise says =
      says_refused (answer_texts addrs) (λ answers. AreSomeGiven number addrs answers) IsSomeProcessCause e result (batch_cause _ reading _ _ _ _ _ _ addrs _ _ _ _ _ _ e ((of_form (Err e) promise).asks refl)) says

-- An address alone.

module _ {A D R X : Type 0} (looks : files_trait.Ghosts X) (reading : A → Answer) (test : Test R) (translates : Translates R) (finds : Finds R) (source : Source) (map_files : Bool) (number : ℕ)
    (is : form_of source ≡ OneProcess (query_by map_files number)) (addr : ℕ) (old now : WholeState D R) (before after : X) where
  abbrev AddressSo : Result A Error → Type 0
  AddressSo result = AddressOfProcess looks reading test translates finds source InProcess addr result old now before after

  abbrev AsksAt : Result A Error → ProcessQuery → Type 0
  AsksAt result query = SymbolizesAddress looks reading test translates finds (opts_of old.files.settings) (asked_of (looks.pid before) query) InProcess addr result old.files.elf now.files.elf old.processes now.processes before after

  at_form : (result : Result A Error) → AddressSo result → AsksAt result (query_by map_files number)
  at_form result promise = subst (λ (f : SourceForm). OnProcessForm f (AsksAt result)) is promise.asked

  abbrev known : Option (List Mapping)
  known = kept_mappings old.processes (pid_of number)

  -- what is by the mappings that are used is by those of some text
  given_so : (given : Result Answer Error) → AreKeptOfText old.processes.mappings →
      IsByMappings (asked_of (looks.pid before) (query_by map_files number)) known addr given (caches_of old.files.elf old.processes) (caches_of now.files.elf now.processes) → IsSomeGiven number addr given
  given_so given kept by = (
    under (looks.pid before) map_files old now,
    record { mappings = by.mappings; used = used_of_text (pid_of number) old.processes.mappings by.mappings kept by.used; untold = by.untold },
  )

  -- an answer of a process
  address_given : (given : A) → AddressSo (Ok given) → GivesNone test → AreKeptOfText old.processes.mappings → IsSomeGiven number addr (Ok (reading given))
  address_given given promise none kept = elim ((at_form (Ok given) promise).untold none refl) [
    | inl by ↦ given_so (Ok (reading given)) kept by
    | inr lacks ↦ absurd (false≢true lacks.refused)
  ]

  -- or a refusal of it, unless something failed
  by_error : (e : Error) → AreKeptOfText old.processes.mappings →
      UnlessFailed {A = A} (Err e) (IsByMappings (asked_of (looks.pid before) (query_by map_files number)) known addr (Err e) (caches_of old.files.elf old.processes) (caches_of now.files.elf now.processes)
      ⊎ RefusedUnmapped {A = A} known (Err e) (caches_of old.files.elf old.processes) (caches_of now.files.elf now.processes) old.processes.answers now.processes.answers) →
      IsSomeCauseOrFails (λ e. IsAddressCause number addr e) e
  by_error errors.ReadFault kept some = tt
  by_error errors.OutOfMemory kept some = tt
  by_error e kept (inl by) = inr (λ failed. failed, given_so (Err e) kept by)
  by_error e kept (inr lacks) = inl (lacks_cause known e lacks.refusal)

  pub process_given_alone : (given : A) (result : Result Said Error) → AddressSo (Ok given) → GivesNone test → AreKeptOfText old.processes.mappings → Says (answer_text addr (reading given)) result →
      IfOk result (λ say. ProcessMaySayAlone number addr (text_of say))
  process_given_alone given result promise none kept says =
      says_given (answer_text addr) (λ answer. IsSomeGiven number addr (Ok answer)) (λ e. IsAddressCause number addr e) (reading given) result (address_given given promise none kept) says

  pub process_refused_alone : (e : Error) (result : Result Said Error) → AddressSo (Err e) → GivesNone test → AreKeptOfText old.processes.mappings → SaysRefusal e result →
      IfOk result (λ say. ProcessMaySayAlone number addr (text_of say))
  process_refused_alone e result promise none kept says =
      says_refused (answer_text addr) (λ answer. IsSomeGiven number addr (Ok answer)) (λ e. IsAddressCause number addr e) e result (by_error e kept ((at_form (Err e) promise).untold none refl)) says

module _ {A D R X : Type 0} (looks : files_trait.Ghosts X) (reading : A → Answer) (source : Source) (addr : ℕ) (result : Result Said Error) (old now : WholeState D R) (before after : X)
    (test : Test R) (translates : Translates R) (finds : Finds R) (map_files : Bool) where
  -- of a target, whichever it is
  pub single_given : (target : Target) (given : A) → form_of source ≡ target_form map_files target → IsSourceFor target source →
      Symbolizes looks reading source (single_of (usual_kind target) addr) (Ok given) old.files now.files before after →
      AddressOfProcess looks reading test translates finds source (usual_kind target) addr (Ok given) old now before after → GivesNone test → AreKeptOfText old.processes.mappings →
      Says (answer_text addr (reading given)) result → IfOk result (λ say. MayReply (opts_of old.files.settings) (Single target addr) (text_of say))
  single_given (Breakpad path) given form is promise process none kept says = file_given (opts_of old.files.settings) (single_of InFile addr) (answer_text addr) (BreakpadFile path) source result is now.files (reading given) promise.kept says
  single_given (Gsym path) given form is promise process none kept says = file_given (opts_of old.files.settings) (single_of InTable addr) (answer_text addr) (GsymFile path) source result is now.files (reading given) promise.kept says
  single_given (Elf path) given form is promise process none kept says = file_given (opts_of old.files.settings) (single_of InTable addr) (answer_text addr) (ElfFile path) source result is now.files (reading given) promise.kept says
  single_given (OfProcess number) given form is promise process none kept says = process_given_alone looks reading test translates finds source map_files number form addr old now before after given result process none kept says

  pub single_refused : (target : Target) (e : Error) → form_of source ≡ target_form map_files target → IsSourceFor target source →
      Symbolizes looks reading source (single_of (usual_kind target) addr) (Err e) old.files now.files before after →
      AddressOfProcess looks reading test translates finds source (usual_kind target) addr (Err e) old now before after → GivesNone test → AreKeptOfText old.processes.mappings →
      SaysRefusal e result → IfOk result (λ say. MayReply (opts_of old.files.settings) (Single target addr) (text_of say))
  single_refused (Breakpad path) e form is promise process none kept says = file_refused (opts_of old.files.settings) (single_of InFile addr) (answer_text addr) (BreakpadFile path) source result is e refl promise.refusal says
  single_refused (Gsym path) e form is promise process none kept says = file_refused (opts_of old.files.settings) (single_of InTable addr) (answer_text addr) (GsymFile path) source result is e refl promise.refusal says
  single_refused (Elf path) e form is promise process none kept says = file_refused (opts_of old.files.settings) (single_of InTable addr) (answer_text addr) (ElfFile path) source result is e refl promise.refusal says
  single_refused (OfProcess number) e form is promise process none kept says = process_refused_alone looks reading test translates finds source map_files number form addr old now before after e result process none kept says

-- Keeping and forgetting.

-- a look may be refused as a look for any kind of address
may_be_refused : (Unserved : Type 0) (test : List ℕ → Option Error) (e : Error) → MayFail test e → MayBeRefused Unserved test e
may_be_refused Unserved test errors.Unsupported may = inr may
may_be_refused Unserved test _ may = may

-- a text of the system is refused by such a cause
read_cause : (e : Error) → IsReadRefusal e → IsSomeCauseOrFails IsSomeReadCause e
read_cause errors.NotFound may = tt
read_cause errors.PermissionDenied may = tt
read_cause errors.InvalidData may = tt
read_cause errors.ReadFault may = tt
read_cause errors.OutOfMemory may = tt
read_cause _ may = absurd may

-- the ELF file at the path of a request, as a source
abbrev elf_source : String Global → Source
elf_source path = sources.Elf (record { path = path; debug_syms = true })

module _ {D R X : Type 0} (looks : files_trait.Ghosts X) (old now : WholeState D R) (before after : X) where
  -- what isn't kept isn't for such a cause, or something failed
  keep_cause : (cache : Cache) (e : Error) → CachesAsAsked looks (cache_read cache) (Err e) old now before after → IsSomeCauseOrFails (IsSomeKeepingCause (cache_read cache)) e
  keep_cause (caches.Elf request) e called =
      file_causes Basic [] InTable (ElfFile (string_bytes request.path)) (elf_source request.path) (refused_so e) refl refl (inl (may_be_refused _ _ e called.pins.refusal))
  keep_cause (caches.Process request) e called = read_cause e called.keeps.refusal

  pub keep_refused : (cache : Cache) (asked : ToCache) (e : Error) (result : Result Said Error) → cache_read cache ≡ asked → CachesAsAsked looks asked (Err e) old now before after → SaysRefusal e result →
      IfOk result (λ say. KeepingMaySay asked (text_of say))
  keep_refused cache asked e result is called says =
      subst (λ (asked : ToCache). IfOk result (λ say. KeepingMaySay asked (text_of say))) is
      (says_refused okay (λ done. Unit {0}) (IsSomeKeepingCause (cache_read cache)) e result (keep_cause cache e (subst (λ (asked : ToCache). CachesAsAsked looks asked (Err e) old now before after) (sym is) called)) says)

  -- and the settings stay
  pub kept_settings : (asked : ToCache) (result : Result (Unit {0}) Error) → CachesAsAsked looks asked result old now before after → now.files.settings ≡ old.files.settings
  kept_settings (KeepElf path) result called = ap (λ (whole : WholeState D R). whole.files.settings) called.rest
  kept_settings (KeepProcess process) result called = ap (λ (files : State). files.settings) called.rest

-- also where something is forgotten
pub forgotten_settings : {D R : Type 0} (asked : ToEvict) (whole : WholeState D R) → (evicting asked whole).files.settings ≡ whole.files.settings
forgotten_settings (ForgetElf path) whole = refl
forgotten_settings (ForgetProcess pid) whole = refl
