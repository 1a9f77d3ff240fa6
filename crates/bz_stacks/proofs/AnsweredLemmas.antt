-- What a call promises of what it gives, it promises of the answers that are read of this.
use Rattle.std.proofs.Common.{◌≡◌, ℕ, List, Option, Result, Ok, Err, IsErrOf, ap, inl, inr}
use Rattle.bz_base.specs.Answer.{Answer}
use Rattle.bz_base.specs.InputKind.{AddressKind}
use Rattle.bz_base.specs.declared.error.Error.{Error}
use Rattle.bz_base.specs.declared.error.Error.TheVariants as errors
use Rattle.bz_base.specs.declared.pid.Pid.{Pid}
use Rattle.bz_base.specs.declared.resolve.Symbolize.{Ghosts as Finds}
use Rattle.bz_base.specs.declared.resolve.TranslateFileOffset.{Ghosts as Translates}
use Rattle.bz_base.specs.declared.types.FindSymOpts.{FindSymOpts}
use Rattle.bz_files.specs.World.{World}
use Rattle.bz_files.specs.declared.files.Files.{Ghosts}
use Rattle.bz_cache.specs.Cache.{Cache}
use Rattle.bz_proc.specs.Maps.{Mapping}
use Rattle.bz_process.specs.Asked.{Asked, asked_of}
use Rattle.bz_process.specs.Caches.{ProcessCaches}
use Rattle.bz_process.specs.Dispatch.{DispatchAnswers, Test}
use Rattle.bz_process.specs.Mapped.{AsksProcess, RefusedUnmapped, UsesMappings}
use Rattle.bz_process.specs.Process.{StepOutcome, Step}
use Rattle.bz_process.specs.ProcessCall.{HasOutcome, TakesStep}
use Rattle.bz_process.specs.Processes.{KeptProcesses, SymbolizesProcess}
use Rattle.bz_process.specs.Untold.{as_read}
use Rattle.bz_symbolize.specs.FileCall.{Query}
use Rattle.bz_symbolize.specs.OfProcess.{BatchOfProcess}
use Rattle.bz_symbolize.specs.Promise.{CallTold, FileLeaves, Symbolizes}
use Rattle.bz_symbolize.specs.Sources.{FileSource, SourceForm, form_of}
use Rattle.bz_symbolize.specs.State.{State, WholeState, opts_of}
use Rattle.bz_symbolize.specs.declared.source.Source.{Source}
use Rattle.bz_stacks.proofs.FormLemmas.{on_file_by, on_process_by, unless_process_by}

-- an answer as it is
abbrev pub as_is : {B : Type 0} → B → B
as_is answer = answer

-- a refusal is the same
module _ {A B : Type 0} (reading : A → B) (e : Error) where
  pub refusal_read : (result : Result A Error) → IsErrOf result e → IsErrOf (as_read reading result) e
  refusal_read (Ok given) is = cc is
  refusal_read (Err x) is = let same : x ≡ e = cc is in ap Err same

  refusal_back : (result : Result A Error) → IsErrOf (as_read reading result) e → IsErrOf result e
  refusal_back (Ok given) is = cc is
  refusal_back (Err x) is = let same : x ≡ e = cc is in ap Err same

-- of files, and of bytes that are handed in
module _ {A B : Type 0} (reading : A → B) (query : Query B) (old now : State) where
  told_read : (opts : FindSymOpts) (form : SourceForm) (world : World) (before after : ℕ) (result : Result A Error) →
      CallTold reading opts form query result old now world before after → CallTold as_is opts form query (as_read reading result) old now world before after
  told_read opts form world before after (Ok given) call = record { answer = call.answer; state = call.state; opened = call.opened; spared = call.spared }
  told_read opts form world before after (Err e) call = record { answer = call.answer; state = call.state; opened = call.opened; spared = call.spared }

  leaves_read : (opts : FindSymOpts) (source : Source) (file : FileSource) (result : Result A Error) →
      FileLeaves opts source file query result old now → FileLeaves opts source file query (as_read reading result) old now
  leaves_read opts source file (Ok given) left = record {
    one_look = left.one_look;
    on_refusal = left.on_refusal;
    on_fault = λ failed. left.on_fault (refusal_back reading errors.ReadFault (Ok given) failed);
    out_of_memory = λ ran. left.out_of_memory (refusal_back reading errors.OutOfMemory (Ok given) ran);
  }
  leaves_read opts source file (Err e) left = record {
    one_look = left.one_look;
    on_refusal = left.on_refusal;
    on_fault = λ failed. left.on_fault (refusal_back reading errors.ReadFault (Err e) failed);
    out_of_memory = λ ran. left.out_of_memory (refusal_back reading errors.OutOfMemory (Err e) ran);
  }

module _ {A B X : Type 0} (files : Ghosts X) (reading : A → B) (source : Source) (query : Query B) (old now : State) (before after : X) where
  pub call_read : (result : Result A Error) → Symbolizes files reading source query result old now before after → Symbolizes files as_is source query (as_read reading result) old now before after
  call_read (Ok given) call = record {
    view = call.view;
    look = call.look;
    kept = call.kept;
    causes = call.causes;
    complete = call.complete;
    told = λ world seen. unless_process_by (form_of source) (told_read reading query old now _ _ world _ _ (Ok given)) (call.told world seen);
    history = call.history;
    leaves = on_file_by (form_of source) (λ file. leaves_read reading query old now _ source file (Ok given)) call.leaves;
    handed = call.handed;
    untaken = on_file_by (form_of source) (λ file holds other. (refusal_read reading errors.Unsupported (Ok given) (holds other).0, (holds other).1, (holds other).2)) call.untaken;
    stays = call.stays;
    ready = call.ready;
    refusal = call.refusal;
    settings = call.settings;
    caches = call.caches;
    looked = call.looked;
    most = call.most;
  }
  call_read (Err e) call = record {
    view = call.view;
    look = call.look;
    kept = call.kept;
    causes = call.causes;
    complete = call.complete;
    told = λ world seen. unless_process_by (form_of source) (told_read reading query old now _ _ world _ _ (Err e)) (call.told world seen);
    history = call.history;
    leaves = on_file_by (form_of source) (λ file. leaves_read reading query old now _ source file (Err e)) call.leaves;
    handed = call.handed;
    untaken = on_file_by (form_of source) (λ file holds other. (refusal_read reading errors.Unsupported (Err e) (holds other).0, (holds other).1, (holds other).2)) call.untaken;
    stays = call.stays;
    ready = call.ready;
    refusal = call.refusal;
    settings = call.settings;
    caches = call.caches;
    looked = call.looked;
    most = call.most;
  }

-- of a process
module _ {A B : Type 0} (reading : A → B) where
  outcome_read : (expected : StepOutcome B) (result : Result A Error) (now : ProcessCaches) (before after : ℕ) →
      HasOutcome reading expected result now before after → HasOutcome as_is expected (as_read reading result) now before after
  outcome_read expected (Ok given) now before after outcome = record { answer = outcome.answer; left = outcome.left; opened = outcome.opened }
  outcome_read expected (Err e) now before after outcome = record { answer = outcome.answer; left = outcome.left; opened = outcome.opened }

  step_read : {X : Type 0} (files : Ghosts X) (own : ℕ) (expected : Step B) (result : Result A Error) (old now : ProcessCaches) (before after : X) →
      TakesStep files own reading expected result old now before after → TakesStep files own as_is expected (as_read reading result) old now before after
  step_read files own expected (Ok given) old now before after step = record {
    told = λ world seen. outcome_read _ (Ok given) now _ _ (step.told world seen);
    reached = step.reached;
    elf = step.elf;
    perf_maps = step.perf_maps;
    looked = step.looked;
  }
  step_read files own expected (Err e) old now before after step = record {
    told = λ world seen. outcome_read _ (Err e) now _ _ (step.told world seen);
    reached = step.reached;
    elf = step.elf;
    perf_maps = step.perf_maps;
    looked = step.looked;
  }

module _ {A R : Type 0} (reading : A → List Answer) (kept : Option (List Mapping)) (old now : ProcessCaches) (answers answers_now : DispatchAnswers R) where
  refused_read : (result : Result A Error) → RefusedUnmapped kept result old now answers answers_now → RefusedUnmapped kept (as_read reading result) old now answers answers_now
  refused_read (Ok given) first = record { refused = first.refused; refusal = first.refusal; unchanged = first.unchanged; unsaid = first.unsaid }
  refused_read (Err e) first = record { refused = first.refused; refusal = first.refusal; unchanged = first.unchanged; unsaid = first.unsaid }

  module _ (Follows : Type 0) (pid : Pid) (mappings : List Mapping) where
    used_read : (result : Result A Error) → UsesMappings Follows pid kept mappings result old now answers answers_now → UsesMappings Follows pid kept mappings (as_read reading result) old now answers answers_now
    used_read result (inl used) = inl used
    used_read result (inr first) = inr (refused_read result first)

module _ {A R X : Type 0} (files : Ghosts X) (reading : A → List Answer) (test : Test R) (translates : Translates R) (finds : Finds R) (opts : FindSymOpts) (asked : Asked) (addrs : List ℕ) (before after : X) where
  asks_read : (kept : Option (List Mapping)) (result : Result A Error) (old now : ProcessCaches) (answers answers_now : DispatchAnswers R) →
      AsksProcess files reading test translates finds opts asked kept addrs result old now answers answers_now before after →
      AsksProcess files as_is test translates finds opts asked kept addrs (as_read reading result) old now answers answers_now before after
  asks_read kept (Ok given) old now answers answers_now asks = record {
    mappings = asks.mappings;
    mapped = asks.mapped;
    tied = asks.tied;
    front = asks.front;
    rest = asks.rest;
    addrs_are = asks.addrs_are;
    all = asks.all;
    allowed = asks.allowed;
    used = used_read reading kept old now answers answers_now _ asked.pid asks.mappings (Ok given) asks.used;
    keeps = asks.keeps;
    adds = asks.adds;
    step = step_read reading files asked.own _ (Ok given) old now before after asks.step;
  }
  asks_read kept (Err e) old now answers answers_now asks = record {
    mappings = asks.mappings;
    mapped = asks.mapped;
    tied = asks.tied;
    front = asks.front;
    rest = asks.rest;
    addrs_are = asks.addrs_are;
    all = asks.all;
    allowed = asks.allowed;
    used = used_read reading kept old now answers answers_now _ asked.pid asks.mappings (Err e) asks.used;
    keeps = asks.keeps;
    adds = asks.adds;
    step = step_read reading files asked.own _ (Err e) old now before after asks.step;
  }

  module _ {D : Type 0} (kind : AddressKind) (elf elf_now : Cache) (old now : KeptProcesses D R) where
    process_read : (result : Result A Error) → SymbolizesProcess files reading test translates finds opts asked kind addrs result elf elf_now old now before after →
        SymbolizesProcess files as_is test translates finds opts asked kind addrs (as_read reading result) elf elf_now old now before after
    process_read (Ok given) process = record {
      untaken = λ other. let refused = process.untaken other in (refusal_read reading errors.Unsupported (Ok given) refused.0, refused.1, refused.2, refused.3);
      asks = λ taken. asks_read _ (Ok given) _ _ _ _ (process.asks taken);
      exact = λ none taken. step_read reading files asked.own _ (Ok given) _ _ before after (process.exact none taken);
      untold = λ none taken. process.untold none taken;
      mappings = process.mappings;
      dispatcher = process.dispatcher;
    }
    process_read (Err e) process = record {
      untaken = λ other. let refused = process.untaken other in (refusal_read reading errors.Unsupported (Err e) refused.0, refused.1, refused.2, refused.3);
      asks = λ taken. asks_read _ (Err e) _ _ _ _ (process.asks taken);
      exact = λ none taken. step_read reading files asked.own _ (Err e) _ _ before after (process.exact none taken);
      untold = λ none taken. process.untold none taken;
      mappings = process.mappings;
      dispatcher = process.dispatcher;
    }

module _ {A D R X : Type 0} (files : Ghosts X) (reading : A → List Answer) (test : Test R) (translates : Translates R) (finds : Finds R) (source : Source) (kind : AddressKind) (addrs : List ℕ) where
  pub batch_read : (result : Result A Error) (old now : WholeState D R) (before after : X) → BatchOfProcess files reading test translates finds source kind addrs result old now before after →
      BatchOfProcess files as_is test translates finds source kind addrs (as_read reading result) old now before after
  batch_read result old now before after batch = record {
    asked = on_process_by (form_of source)
        (λ query. process_read files reading test translates finds (opts_of old.files.settings) (asked_of (files.pid before) query) addrs before after kind old.files.elf now.files.elf old.processes now.processes result) batch.asked;
    rest = batch.rest;
    history = batch.history;
    others = batch.others;
  }
