-- What stacks fold to by a Breakpad file, from what folding a call promises.
use Rattle.std.proofs.Common.{◌≡◌, ℕ, List, Result, Ok, Err, IfErr, IfOk, IsOk, OnOk, Vec, Global, refl, sym, ap, subst}
use Rattle.std.proofs.lemmas.Bool.{false≢true}
use Rattle.bz_base.specs.Answer.{Answer}
use Rattle.bz_base.specs.InputKind.{InFile}
use Rattle.bz_base.specs.declared.error.Error.{Error}
use Rattle.bz_base.specs.declared.error.Error.TheVariants as errors
use Rattle.bz_cache.specs.Format.{GivesOrFaults, FailsAs}
use Rattle.bz_files.specs.Count.{counted}
use Rattle.bz_files.specs.Looked.{Faulted, Looked}
use Rattle.bz_files.specs.World.{Told, in_view}
use Rattle.bz_files.specs.declared.files.Files.{Ghosts}
use Rattle.bz_requests.specs.declared.requests.Config.{Config}
use Rattle.bz_stacks.specs.Stack.{CountedStack}
use Rattle.bz_symbolize.specs.FileCall.{batch_of}
use Rattle.bz_symbolize.specs.Promise.{Symbolizes}
use Rattle.bz_symbolize.specs.State.{State, new_state}
use Rattle.bz_symbolize.specs.declared.source.Source.{Source}
use Rattle.bz_symq.specs.Command.{Breakpad, of_file}
use Rattle.bz_symq.specs.Kept.{KeptState, new_kept, opts_in, settings_of}
use Rattle.bz_symq.specs.Reply.{IsSomeCauseOrFails}
use Rattle.bz_symq.specs.Targets.{AnswersSome, IsSomeFileCause, IsSourceOf}
use Rattle.bz_symq.specs.Turns.{ReadsOneFor}
use Rattle.bz_symq.proofs.CauseLemmas.{file_causes}
use Rattle.bz_symq.proofs.FaultLemmas.{counts_as}
use Rattle.bz_symq.proofs.TargetLemmas.{answer_new, of_its_file, of_its_source, opened_by_target, some_from_kept}
use Rattle.bz_stacks.specs.Fold.{IsFoldOf, addrs_of}
use Rattle.bz_run.specs.StackOutcome.{answers_in, folded_by}
use Rattle.bz_run.specs.StackReply.{IsSomeText}

-- answers as they are read
abbrev read : List Answer → List Answer
read answers = answers

-- the text that was made
abbrev written : Vec ℕ Global → List ℕ
written text = text.items

module _ (stacks : List CountedStack) where
  -- a refusal of answers is one of their text
  refused_as : (expected : Result (List Answer) Error) (e : Error) → FailsAs expected e → FailsAs (folded_by stacks expected) e
  refused_as expected errors.ReadFault comes = tt
  refused_as expected errors.OutOfMemory comes = tt
  refused_as expected _ comes = rw comes refl

  -- where answers come, their text comes
  text_comes : (expected answered : Result (List Answer) Error) (result : Result (Vec ℕ Global) Error) → GivesOrFaults read expected answered → IsFoldOf stacks answered result →
      GivesOrFaults written (folded_by stacks expected) result
  text_comes expected (Ok answers) (Ok text) comes is = rw comes (ap Ok (sym is.0))
  text_comes expected (Ok answers) (Err e) comes is = rw is.1 tt
  text_comes expected (Err e) result comes is = rw is (refused_as expected e comes)

  -- a text is by the answers of some file
  text_of_some : (config : Config) (path : List ℕ) (own : ℕ) (answered : Result (List Answer) Error) (result : Result (Vec ℕ Global) Error) →
      IfOk answered (λ given. AnswersSome (of_file (Breakpad path) InFile config) own (addrs_of stacks) given) → IsFoldOf stacks answered result → IfOk result (λ text. IsSomeText config stacks text.items)
  text_of_some config path own (Ok answers) (Ok text) some is = record { answers = answers; bytes = some.are.0; answers_are = some.are.1; text_is = is.0 }
  text_of_some config path own (Ok answers) (Err e) some is = tt
  text_of_some config path own (Err e) (Ok text) some is = cc
  text_of_some config path own (Err e) (Err f) some is = tt

  -- and a refusal is that of the call, or memory ran out
  refusal_of_call : (Cause : Error → Type 0) (answered : Result (List Answer) Error) (result : Result (Vec ℕ Global) Error) → IfErr answered (λ e. IsSomeCauseOrFails Cause e) →
      IsFoldOf stacks answered result → IfErr result (λ e. IsSomeCauseOrFails Cause e)
  refusal_of_call Cause (Ok answers) (Ok text) cause is = tt
  refusal_of_call Cause (Ok answers) (Err e) cause is = rw is.1 tt
  refusal_of_call Cause (Err e) result cause is = rw is cause

  -- a text is given only where answers are
  opened_for : (P : Type 0) (answered : Result (List Answer) Error) (result : Result (Vec ℕ Global) Error) → OnOk answered P → IsFoldOf stacks answered result → IsOk result → P
  opened_for P (Ok answers) result opened is ok = opened
  opened_for P (Err e) (Ok text) opened is ok = cc
  opened_for P (Err e) (Err f) opened is ok = absurd (false≢true ok)

  -- and a fault is one of the call
  faulted : (answered : Result (List Answer) Error) (result : Result (Vec ℕ Global) Error) → IsFoldOf stacks answered result → Faulted answered → Faulted result
  faulted (Ok answers) result is fault = absurd fault
  faulted (Err e) result is fault = rw is fault

  call_faulted : (answered : Result (List Answer) Error) (result : Result (Vec ℕ Global) Error) → IsFoldOf stacks answered result → Faulted result → Faulted answered
  call_faulted (Ok answers) (Ok text) is fault = fault
  call_faulted (Ok answers) (Err e) is fault = let memory = is.1 in cc
  call_faulted (Err e) (Ok text) is fault = absurd fault
  call_faulted (Err e) (Err f) is fault = cc

module _ {X : Type 0} (looks : Ghosts X) (path : List ℕ) (config : Config) (stacks : List CountedStack) (source : Source) (of_path : IsSourceOf (Breakpad path) source)
    (result : Result (Vec ℕ Global) Error) (old : KeptState) (new : old ≡ new_kept (settings_of config)) (now : State) (before after : X) (answered : Result (List Answer) Error)
    (text : IsFoldOf stacks answered result) (called : Symbolizes looks read source (batch_of InFile (addrs_of stacks)) answered old.files now before after) where
  -- the symbolizer kept nothing
  call : Symbolizes looks read source (batch_of InFile (addrs_of stacks)) answered (new_state (settings_of config)) now before after
  call = subst (λ (state : State). Symbolizes looks read source (batch_of InFile (addrs_of stacks)) answered state now before after) (ap (λ (kept : KeptState). kept.files) new) called

  -- so it answers what the file answers
  call_comes : Told (in_view (looks.worlds before)) (λ world. GivesOrFaults read (answers_in path config world stacks) answered)
  call_comes world told =
      let answers = of_its_source (Breakpad path) source _ of_path (call.told world told) in
      subst (λ expected. GivesOrFaults read expected answered) (answer_new config (addrs_of stacks) world (Breakpad path) InFile source 0 of_path) answers.answer

  -- the text is that of the stacks by what lies at the path
  pub folds_answer : Told (in_view (looks.worlds before)) (λ world. GivesOrFaults written (folded_by stacks (answers_in path config world stacks)) result)
  folds_answer world told = text_comes stacks _ answered result (call_comes world told) text

  -- and whatever the files tell, by some Breakpad file
  pub folds_some : IfOk result (λ text. IsSomeText config stacks text.items)
  folds_some =
      text_of_some stacks config path (looks.pid before) answered result
      (some_from_kept config (addrs_of stacks) read InFile now _ (looks.pid before) (Breakpad path) source answered of_path (λ refused. refused.0) call.untaken call.kept)
      text

  -- and a refusal is one that a Breakpad file may have, or something failed
  pub folds_refusal : IfErr result (λ e. IsSomeCauseOrFails (IsSomeFileCause (Breakpad path)) e)
  folds_refusal =
      refusal_of_call stacks (IsSomeFileCause (Breakpad path)) answered result
      (file_causes (opts_in config) (addrs_of stacks) InFile (Breakpad path) source answered of_path refl call.refusal) text

  -- one file at most was read, and where a text is given one was
  pub folds_opens : ReadsOneFor looks (IsOk result) before after
  folds_opens = record {
    most = of_its_file (Breakpad path) source _ of_path call.most;
    opened = λ world told ok.
        let answers = of_its_source (Breakpad path) source _ of_path (call.told world told) in
        opened_for stacks (looks.opens after ≡ counted (looks.opens before)) answered result
        (opened_by_target config (addrs_of stacks) read world _ _ answered (Breakpad path) InFile source 0 of_path (call_comes world told) answers.opened) text ok;
  }

  -- of the files only counts have moved
  pub folds_looked : Looked looks before after (Faulted result)
  folds_looked =
      let looked = call.looked in
      record {
        worlds = looked.worlds;
        pid = looked.pid;
        faults = counts_as _ _ (faulted stacks answered result text) (call_faulted stacks answered result text) looked.faults;
      }
