-- What a call of the symbolizer does, from what it promises.
use Rattle.std.proofs.Common.{Global, String, string_bytes, ◌≡◌, ◌⊎◌, ℕ, ◌+◌, ◌≤◌, Bool, true, false, List, map, Some, Result, Ok, Err, OnOk, OnErr, refl, sym, ap, ap₂, subst, inl, inr, arith}
use Rattle.bz_base.specs.Answer.{Answer}
use Rattle.bz_base.specs.InputKind.{InFile, InProcess, InTable}
use Rattle.bz_base.specs.declared.error.Error.{Error}
use Rattle.bz_base.specs.declared.error.Error.TheVariants as errors
use Rattle.bz_base.specs.declared.resolve.Symbolize.{Ghosts as Finds}
use Rattle.bz_base.specs.declared.resolve.TranslateFileOffset.{Ghosts as Translates}
use Rattle.bz_files.specs.Count.{counted}
use Rattle.bz_files.specs.Looked.{ReadsOne}
use Rattle.bz_files.specs.World.{World, in_view}
use Rattle.bz_files.specs.declared.files.Files as files_trait
use Rattle.bz_cache.specs.Format.{GivesOrFaults}
use Rattle.bz_process.specs.Asked.{asked_of}
use Rattle.bz_process.specs.Caches.{ProcessCaches}
use Rattle.bz_process.specs.Caching.{KeptMappings}
use Rattle.bz_process.specs.Dispatch.{Test}
use Rattle.bz_process.specs.Mapped.{asks_process, asks_process_at}
use Rattle.bz_process.specs.Process as stepped
use Rattle.bz_process.specs.Process.{count_of, unsaid}
use Rattle.bz_process.specs.ProcessAsk.{GivesNone}
use Rattle.bz_process.specs.ProcessCall.{LeavesUnlessFailed, TakesStep}
use Rattle.bz_process.specs.Processes.{KeptProcesses, SymbolizesAddress, SymbolizesProcess, caches_of, kept_mappings}
use Rattle.bz_process.specs.declared.query.ProcessQuery.{ProcessQuery}
use Rattle.bz_symbolize.specs.Caching.{Caches}
use Rattle.bz_symbolize.specs.Evicting.{evicting}
use Rattle.bz_symbolize.specs.FileCall.{Leaves, Query, batch_of, single_of}
use Rattle.bz_symbolize.specs.OfProcess.{AddressOfProcess, BatchOfProcess}
use Rattle.bz_symbolize.specs.Promise.{CallTold, Symbolizes}
use Rattle.bz_symbolize.specs.Requests.{ToCache, ToEvict, CacheElf as KeepElf, CacheProcess as KeepProcess, EvictElf as ForgetElf, EvictProcess as ForgetProcess}
use Rattle.bz_symbolize.specs.Sources.{FileSource, OneFile, OneProcess, OnFileForm, OnProcessForm, SourceForm, UnlessProcessForm, form_of}
use Rattle.bz_symbolize.specs.State.{State, WholeState, opts_of}
use Rattle.bz_symbolize.specs.declared.source.Source.{Source}
use Rattle.bz_symq.specs.FileSources.{breakpad_file, elf_file, gsym_file}
use Rattle.bz_symq.specs.Kept.{KeptState, caches_in, kept_of, with_caches}
use Rattle.bz_serve.specs.Serving.{Does}
use Rattle.bz_requests.specs.Requests.{Target, Breakpad, Elf, Gsym, Process as OfProcess, target_of, usual_kind}
use Rattle.bz_requests.specs.declared.requests.Target as made
use Rattle.bz_requests.specs.declared.requests.Target.TheVariants as made_targets
use Rattle.bz_serve.specs.RequestSteps.{Doing, asking, asking_batch, asking_single, keeping, query_by, stepping, target_form, unless_refused}

-- what is left where a call doesn't fail
leaves_unless_failed : {A S : Type 0} (result : Result A Error) (old expected now : S) → Leaves result old expected now → LeavesUnlessFailed result expected now
leaves_unless_failed (Ok given) old expected now leaves = leaves
leaves_unless_failed (Err errors.ReadFault) old expected now leaves = tt
leaves_unless_failed (Err errors.OutOfMemory) old expected now leaves = tt
leaves_unless_failed (Err _) old expected now leaves = leaves

-- and what is made of it
left_as : {A S T : Type 0} (result : Result A Error) (view : S → T) (expected now : S) → LeavesUnlessFailed result expected now → LeavesUnlessFailed result (view expected) (view now)
left_as (Ok given) view expected now left = ap view left
left_as (Err errors.ReadFault) view expected now left = tt
left_as (Err errors.OutOfMemory) view expected now left = tt
left_as (Err _) view expected now left = ap view left

-- a count that is one more at most, and stays where no file has to be read
one_more : (opens : Bool) (was now : ℕ) → (opens ≡ false → now ≡ was) → (now ≡ was) ⊎ (now ≡ counted was) → now ≤ was + count_of opens
one_more true was now spared (inl same) = omega (arith, same)
one_more true was now spared (inr counts) = grind (arith, counts)
one_more false was now spared most = let same = spared refl in omega (arith, same)

module _ {A D R X : Type 0} (looks : files_trait.Ghosts X) (source : Source) (result : Result A Error) (old now : WholeState D R) (before after : X) where
  -- a source that is a file
  module _ {B : Type 0} (reading : A → B) (file : FileSource) (is : form_of source ≡ OneFile file) (query : Query B) where
    pub does_file : Symbolizes looks reading source query result old.files now.files before after → now.processes ≡ old.processes →
        Does looks reading (asking (OneFile file) query) result (kept_of old) (kept_of now) before after
    does_file promise others = record {
      answer = λ world told. (call world told).answer;
      state = λ world told. by_others _ others (left_as result (λ (files : State). kept_of (record old { files = files })) _ now.files (leaves_unless_failed result old.files _ now.files (call world told).state));
      reads = λ world told. one_more _ _ _ (call world told).spared most;
      looked = promise.looked;
    }
      where
        call : (world : World) → in_view (looks.worlds before) ≡ Some world → CallTold reading (opts_of old.files.settings) (OneFile file) query result old.files now.files world (looks.opens before) (looks.opens after)
        call world told = subst (λ (f : SourceForm). UnlessProcessForm f (CallTold reading (opts_of old.files.settings) f query result old.files now.files world (looks.opens before) (looks.opens after))) is (promise.told world told)

        most : ReadsOne looks before after
        most = subst (λ (f : SourceForm). OnFileForm f (λ file. ReadsOne looks before after)) is promise.most

        by_others : (expected : KeptState) → now.processes ≡ old.processes → LeavesUnlessFailed result expected (kept_of (record old { files = now.files })) → LeavesUnlessFailed result expected (kept_of now)
        by_others expected same left = subst (λ (kept : KeptState). LeavesUnlessFailed result expected kept) (sym (ap (λ (p : KeptProcesses D R). kept_of (record now { processes = p })) same)) left

  -- what holds unless a process is asked holds where a file is
  unless_process : {P : Type 0} (file : FileSource) → form_of source ≡ OneFile file → UnlessProcessForm (form_of source) P → P
  unless_process {P} file is holds = subst (λ (f : SourceForm). UnlessProcessForm f P) is holds

  -- a process, by its steps
  module _ {B : Type 0} (own : ℕ) (reading : A → B) (step : KeptState → stepped.Step B) where
    does_steps : now.files ≡ record old.files { elf = now.files.elf } → now.processes.mappings ≡ old.processes.mappings →
        TakesStep looks own reading (step (kept_of old)) result (caches_of old.files.elf old.processes) (caches_of now.files.elf now.processes) before after →
        Does looks reading (stepping step) result (kept_of old) (kept_of now) before after
    does_steps rest mappings takes = record {
      answer = λ world told. (takes.told world told).answer;
      state = λ world told. subst (λ (kept : KeptState). LeavesUnlessFailed result (with_caches (kept_of old) (step (kept_of old) world (caches_in (kept_of old))).left) kept) (sym same) (left_as result (λ (caches : ProcessCaches). with_caches (kept_of old) caches) _ (caches_of now.files.elf now.processes) (takes.told world told).left);
      reads = λ world told. (takes.told world told).opened;
      looked = takes.looked;
    }
      where
        same : kept_of now ≡ with_caches (kept_of old) (caches_of now.files.elf now.processes)
        same = ap₂ (λ (files : State) (maps : KeptMappings). kept_of (record { files = files; processes = record now.processes { mappings = maps } })) rest mappings

  module _ (query : ProcessQuery) (is : form_of source ≡ OneProcess query) (test : Test R) (translates : Translates R) (finds : Finds R) where
    pub does_batch : (reading : A → List Answer) (addrs : List ℕ) → BatchOfProcess looks reading test translates finds source InProcess addrs result old now before after → GivesNone test →
        Does looks reading (asking_batch (looks.pid before) (OneProcess query) InProcess addrs) result (kept_of old) (kept_of now) before after
    does_batch reading addrs promise none =
        let asks : SymbolizesProcess looks reading test translates finds (opts_of old.files.settings) (asked_of (looks.pid before) query) InProcess addrs result old.files.elf now.files.elf old.processes now.processes before after =
        subst (λ (f : SourceForm). OnProcessForm f (λ query. SymbolizesProcess looks reading test translates finds (opts_of old.files.settings) (asked_of (looks.pid before) query) InProcess addrs result old.files.elf now.files.elf old.processes now.processes before after)) is promise.asked in
        does_steps (looks.pid before) reading (λ kept. asks_process (asked_of (looks.pid before) query) (kept_mappings kept.processes query.pid) (map unsaid addrs))
        (subst (λ (f : SourceForm). OnProcessForm f (λ query. now.files ≡ record old.files { elf = now.files.elf })) is promise.rest) asks.mappings (asks.exact none refl)

    pub does_single : (reading : A → Answer) (addr : ℕ) → AddressOfProcess looks reading test translates finds source InProcess addr result old now before after → GivesNone test →
        Does looks reading (asking_single (looks.pid before) (OneProcess query) InProcess addr) result (kept_of old) (kept_of now) before after
    does_single reading addr promise none =
        let asks : SymbolizesAddress looks reading test translates finds (opts_of old.files.settings) (asked_of (looks.pid before) query) InProcess addr result old.files.elf now.files.elf old.processes now.processes before after =
        subst (λ (f : SourceForm). OnProcessForm f (λ query. SymbolizesAddress looks reading test translates finds (opts_of old.files.settings) (asked_of (looks.pid before) query) InProcess addr result old.files.elf now.files.elf old.processes now.processes before after)) is promise.asked in
        does_steps (looks.pid before) reading (λ kept. asks_process_at (asked_of (looks.pid before) query) (kept_mappings kept.processes query.pid) (unsaid addr))
        (subst (λ (f : SourceForm). OnProcessForm f (λ query. now.files ≡ record old.files { elf = now.files.elf })) is promise.rest) asks.mappings (asks.exact none refl)

  -- an address of a target, whichever it is
  pub does_target : (map_files : Bool) (target : Target) → form_of source ≡ target_form map_files target → (test : Test R) (translates : Translates R) (finds : Finds R) →
      (reading : A → Answer) (addr : ℕ) → Symbolizes looks reading source (single_of (usual_kind target) addr) result old.files now.files before after →
      AddressOfProcess looks reading test translates finds source (usual_kind target) addr result old now before after → GivesNone test →
      Does looks reading (asking_single (looks.pid before) (target_form map_files target) (usual_kind target) addr) result (kept_of old) (kept_of now) before after
  does_target map_files (Breakpad path) is test translates finds reading addr calls of_process none = does_file reading (breakpad_file path) is (single_of InFile addr) calls (unless_process _ is of_process.others)
  does_target map_files (Gsym path) is test translates finds reading addr calls of_process none = does_file reading (gsym_file path) is (single_of InTable addr) calls (unless_process _ is of_process.others)
  does_target map_files (Elf path) is test translates finds reading addr calls of_process none = does_file reading (elf_file path) is (single_of InTable addr) calls (unless_process _ is of_process.others)
  does_target map_files (OfProcess number) is test translates finds reading addr calls of_process none = does_single (query_by map_files number) is test translates finds reading addr of_process none

-- what is shown for the file that a target is, where it is one, is shown for the target
pub by_file : (P : Doing (List Answer) → Type 0) (map_files : Bool) (own : ℕ) (target : made.Target) (addrs : List ℕ) (source : Source) → form_of source ≡ target_form map_files (target_of target) →
    ((path : String Global) × (target ≡ made_targets.Breakpad path)) ⊎ (((path : String Global) × (target ≡ made_targets.Gsym path)) ⊎ ((path : String Global) × (target ≡ made_targets.Elf path))) →
    ((file : FileSource) → form_of source ≡ OneFile file → P (asking (OneFile file) (batch_of (usual_kind (target_of target)) addrs))) →
    P (asking_batch own (target_form map_files (target_of target)) (usual_kind (target_of target)) addrs)
by_file P map_files own (made_targets.Breakpad path) addrs source form is holds = holds (breakpad_file (string_bytes path)) form
by_file P map_files own (made_targets.Gsym path) addrs source form is holds = holds (gsym_file (string_bytes path)) form
by_file P map_files own (made_targets.Elf path) addrs source form is holds = holds (elf_file (string_bytes path)) form
by_file P map_files own (made_targets.Process number) addrs source form (inl is) holds = cc is.1
by_file P map_files own (made_targets.Process number) addrs source form (inr (inl is)) holds = cc is.1
by_file P map_files own (made_targets.Process number) addrs source form (inr (inr is)) holds = cc is.1

-- what keeping something leaves: an answer what is expected, and a refusal what was
keeps_state : {D R : Type 0} (result : Result (Unit {0}) Error) (answer : Result (Unit {0}) Error) (left old now : WholeState D R) → GivesOrFaults (λ (done : Unit {0}). done) answer result →
    OnOk result (now ≡ left) → OnErr result (now ≡ old) → LeavesUnlessFailed result (unless_refused answer (kept_of old) (kept_of left)) (kept_of now)
keeps_state (Ok done) answer left old now comes ok err = rw comes (ap kept_of ok)
keeps_state (Err errors.ReadFault) answer left old now comes ok err = tt
keeps_state (Err errors.OutOfMemory) answer left old now comes ok err = tt
keeps_state (Err _) answer left old now comes ok err = rw comes (ap kept_of err)

module _ {D R X : Type 0} (looks : files_trait.Ghosts X) (result : Result (Unit {0}) Error) (old now : WholeState D R) (before after : X) where
  -- something is kept ahead of addresses, or nothing changes
  pub does_keep : (asked : ToCache) → Caches looks asked result old now before after → Does looks (λ (done : Unit {0}). done) (keeping (looks.pid before) asked) result (kept_of old) (kept_of now) before after
  does_keep (KeepElf path) promise = record {
    answer = λ world told. (promise.told world told).answer;
    state = λ world told. keeps_state result _ _ old now (promise.told world told).answer (promise.told world told).left promise.err;
    reads = λ world told. (promise.told world told).opened;
    looked = promise.looked;
  }
  does_keep (KeepProcess process) promise = record {
    answer = λ world told. (promise.told world told).answer;
    state = λ world told. keeps_state result _ _ old now (promise.told world told).answer (promise.told world told).left promise.err;
    reads = λ world told. (promise.told world told).opened;
    looked = promise.looked;
  }

-- what is left once something is forgotten has no answers of a dispatcher, as what was there
pub forgets_kept : {D R : Type 0} (asked : ToEvict) (whole : WholeState D R) → kept_of (evicting asked whole) ≡ evicting asked (kept_of whole)
forgets_kept (ForgetElf path) whole = refl
forgets_kept (ForgetProcess pid) whole = refl
