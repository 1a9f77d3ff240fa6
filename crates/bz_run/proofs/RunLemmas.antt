-- What a run over words promises, from the run of their command.
use Rattle.std.proofs.Common.{◌≡◌, ◌≢◌, ◌⊎◌, ℕ, List, Option, Some, None, Result, Err, refl, ap, inl, inr, arith}
use Rattle.bz_base.specs.InputKind.{AddressKind}
use Rattle.bz_base.specs.declared.error.Error.{Error}
use Rattle.bz_base.specs.declared.error.Error.TheVariants as errors
use Rattle.bz_base.specs.declared.types.FindSymOpts.{FindSymOpts}
use Rattle.bz_files.specs.declared.files.Files as files_trait
use Rattle.bz_files.specs.declared.text.TextIn as input_trait
use Rattle.bz_files.specs.declared.text.TextOut as output_trait
use Rattle.bz_run.proofs.StackEndLemmas as stacks
use Rattle.bz_run.specs.StackRun.{RunsStacks}
use Rattle.bz_serve.proofs.FrameRunLemmas as frames
use Rattle.bz_serve.proofs.FrameTurnLemmas.{turns_unread}
use Rattle.bz_serve.specs.FrameRun.{RunsFrames}
use Rattle.bz_requests.specs.Requests as requests
use Rattle.bz_requests.specs.declared.requests.Config.{Config}
use Rattle.bz_run.specs.Generating.{generated_summary}
use Rattle.bz_symq.proofs.FaultLemmas.{counts_still}
use Rattle.bz_symq.proofs.EndLemmas.{failed_ends, runs_without_reply}
use Rattle.bz_symq.specs.Command as asked
use Rattle.bz_symq.specs.Outcome.{done_with}
use Rattle.bz_symq.specs.Reply.{IsDoneReply}
use Rattle.bz_symq.specs.Run as one_command
use Rattle.bz_symq.specs.Run.{Fails, IsOrFails}
use Rattle.bz_symq.specs.Turns.{ReadsFor}
use Rattle.bz_symq.specs.declared.reply.Reply.{Reply}
use Rattle.bz_symq.specs.declared.status.Status.{Status}
use Rattle.bz_symq.specs.declared.status.Status.TheVariants as statuses
use Rattle.bz_words.specs.Command.{Batch, Command, Frames, Generate, Job, Make, Serve, Stacks, command_in}
use Rattle.bz_run.specs.Misuse.{Misused, usage}
use Rattle.bz_run.specs.Run.{Runs, RunsCommand, RunsJob, asked_target}
use Rattle.bz_serve.specs.Sides.{FailsAtOneSide}
use Rattle.bz_serve.proofs.RequestsLemmas.{requests_unread}
use Rattle.bz_serve.proofs.SideLemmas.{fails_at_output}

-- what the status of a run says of its command
abbrev HasUsage : Option Command → Status → Type 0
HasUsage command ended = (ended ≡ statuses.Usage → command ≡ None) × (command ≡ None → IsOrFails statuses.Usage ended)

-- the usage isn't told at these statuses
never_usage : (ended : Status) → (ended ≡ statuses.Input) ⊎ IsOrFails statuses.Done ended → ended ≢ statuses.Usage
never_usage ended (inl same) is = cc
never_usage ended (inr (inl same)) is = cc
never_usage ended (inr (inr (inl same))) is = cc
never_usage ended (inr (inr (inr same))) is = cc

module _ {R W F : Type 0} (reads : input_trait.Ghosts R) (writes : output_trait.Ghosts W) (looks : files_trait.Ghosts F) (ended : Status)
    (input_before input_after : R) (output_before output_after : W) (files_before files_after : F) where
  abbrev Misuse : Type 0
  Misuse = Misused writes ended input_before input_after output_before output_after files_before files_after

  abbrev Job_runs : Config → Job → Type 0
  Job_runs config job = RunsJob reads writes looks config job ended input_before input_after output_before output_after files_before files_after

  abbrev At_one_side : Type 0
  At_one_side = FailsAtOneSide reads writes looks ended input_before input_after output_before output_after files_before files_after

  -- a job never ends by the usage
  job_usage : (config : Config) (job : Job) → Job_runs config job → HasUsage (Some (record { config = config; job = job })) ended
  job_usage config (Batch target kind) run = (λ is. absurd (run.usage is), λ none. cc)
  job_usage config Serve run = (λ is. absurd (never_usage ended run.status is), λ none. cc)
  job_usage config (Make product) run = (λ is. absurd (run.usage is), λ none. cc)
  job_usage config (Generate seed functions addresses) run = (λ is. absurd (never_usage ended (inr run.generated.status) is), λ none. cc)
  job_usage config (Frames root) run = (λ is. absurd (never_usage ended run.status is), λ none. cc)
  job_usage config (Stacks path) run = (λ is. absurd (run.usage is), λ none. cc)

  -- and each fails at one side
  misuse_fails : Misuse → At_one_side
  misuse_fails misused =
      fails_at_output reads writes looks ended _ _ _ _ _ _ (ap reads.faults misused.unread) misused.usage_written.counts (ap looks.faults misused.unlooked)

  one_fails : Fails reads writes looks ended input_before input_after output_before output_after files_before files_after → At_one_side
  one_fails fails = record {
    failed = fails.failed;
    fault = fails.fault;
    input_faults = fails.input_faults;
    output_faults = fails.output_faults;
    files_faults = fails.files.faults;
    unreached = fails.unreached;
  }

  job_fails : (config : Config) (job : Job) → Job_runs config job → At_one_side
  job_fails config (Batch target kind) run = one_fails run.fails
  job_fails config Serve run = run.fails
  job_fails config (Make product) run = one_fails run.fails
  job_fails config (Generate seed functions addresses) run =
      fails_at_output reads writes looks ended _ _ _ _ _ _ (ap reads.faults run.unread) run.generated.fails (ap looks.faults run.unlooked)
  job_fails config (Frames root) run = one_fails run.fails
  job_fails config (Stacks path) run = one_fails run.fails

  -- the run of a command, if there is one, is a run
  run_usage : (command : Option Command) → RunsCommand reads writes looks command ended input_before input_after output_before output_after files_before files_after → HasUsage command ended
  run_usage None run = (λ _. refl, λ _. run.usage_written.status)
  run_usage (Some command) run = job_usage command.config command.job run

  run_fails : (command : Option Command) → RunsCommand reads writes looks command ended input_before input_after output_before output_after files_before files_after → At_one_side
  run_fails None run = misuse_fails run
  run_fails (Some command) run = job_fails command.config command.job run

  pub runs_from : (words : List (List ℕ)) → RunsCommand reads writes looks (command_in words) ended input_before input_after output_before output_after files_before files_after →
      Runs reads writes looks words ended input_before input_after output_before output_after files_before files_after
  runs_from words run = record { run = run; usage = run_usage (command_in words) run; fails = run_fails (command_in words) run }

module _ {R W F : Type 0} (reads : input_trait.Ghosts R) (writes : output_trait.Ghosts W) (looks : files_trait.Ghosts F) (input : R) (output : W) (files : F) where
  -- a run for which memory ran out before it began
  misuse_unstarted : Misused writes statuses.Memory input input output output files files
  misuse_unstarted = record {
    usage_written = record {
      ends = λ old written. failed_ends usage old statuses.Memory _ (inr refl) written;
      status = inr (inr refl);
      silent = λ _. refl;
      counts = counts_still _ _ _ (λ other. cc) refl;
    };
    unread = refl;
    unlooked = refl;
  }

  abbrev failure : Result Reply Error
  failure = Err errors.OutOfMemory

  command_unstarted : (command : asked.Command) → ReadsFor looks command (reads.left input) (IsDoneReply failure) files files →
      one_command.Runs reads writes looks command statuses.Memory input input output output files files
  command_unstarted command opens =
      runs_without_reply reads writes looks command statuses.Memory _ _ _ _ _ _ errors.OutOfMemory (inr refl) (λ is. cc, λ is. cc)
      (record { unasked = λ product is. refl; unlooked = λ text left bad. refl; untaken = λ asking is none. refl; read = tt; bounded = λ text left. (0, omega arith, left); order = inl refl })
      opens (inl (refl, counts_still _ _ _ (λ other. cc) refl)) refl

  target_unstarted : (config : Config) (kind : AddressKind) (target : requests.Target) →
      ReadsFor looks (asked.Batch (record { target = asked_target target; kind = kind; config = config })) (reads.left input) (IsDoneReply failure) files files
  target_unstarted config kind (requests.Breakpad path) = record { most = inl refl; opened = λ world seen done. absurd done }
  target_unstarted config kind (requests.Gsym path) = record { most = inl refl; opened = λ world seen done. absurd done }
  target_unstarted config kind (requests.Elf path) = record { most = inl refl; opened = λ world seen done. absurd done }
  target_unstarted config kind (requests.Process number) = λ text left addrs is world seen. omega arith

  frames_unstarted : (root : List ℕ) (opts : FindSymOpts) → RunsFrames reads writes looks root opts statuses.Memory input input output output files files
  frames_unstarted root opts =
      frames.runs_without_reply reads writes looks root opts statuses.Memory _ _ _ _ _ _ errors.OutOfMemory (inr refl) (λ is. cc, λ is. cc)
      (turns_unread reads looks root opts input input (λ text left. (0, omega arith, left)) errors.OutOfMemory files (λ expected. tt) (counts_still _ _ _ (λ other. cc) refl)) refl

  stacks_unstarted : (path : List ℕ) (config : Config) → RunsStacks reads writes looks path config statuses.Memory input input output output files files
  stacks_unstarted path config =
      stacks.runs_without_reply reads writes looks path config statuses.Memory _ _ _ _ _ _ errors.OutOfMemory (inr refl) (λ is. cc, λ is. cc)
      (record { unlooked = λ text left bad. refl; read = tt; bounded = λ text left. (0, omega arith, left); order = inl refl })
      (record { most = inl refl; opened = λ world seen done. absurd done }) (inl (refl, counts_still _ _ _ (λ other. cc) refl)) refl

  job_unstarted : (config : Config) (job : Job) → RunsJob reads writes looks config job statuses.Memory input input output output files files
  job_unstarted config (Batch target kind) = command_unstarted _ (target_unstarted config kind target)
  job_unstarted config Serve =
      requests_unread reads writes looks config statuses.Memory _ _ _ _ errors.OutOfMemory
      (record { asked = λ text left. tt; status = tt; read = tt; bounded = λ text left. (0, omega arith, left); counts = counts_still _ _ _ (λ other. cc) refl })
      (inr refl) (λ is. cc, λ is. cc)
  job_unstarted config (Make product) = command_unstarted _ (record { most = inl refl; opened = λ world seen done. absurd done })
  job_unstarted config (Generate seed functions addresses) = record {
    generated = record {
      ends = λ old written. failed_ends (done_with (generated_summary config seed functions addresses)) old statuses.Memory _ (inr refl) written;
      status = inr (inr refl);
      fails = counts_still _ _ _ (λ other. cc) refl;
    };
    unread = refl;
    unlooked = refl;
  }
  job_unstarted config (Frames root) = frames_unstarted root _
  job_unstarted config (Stacks path) = stacks_unstarted path config

  pub unstarted : (command : Option Command) → RunsCommand reads writes looks command statuses.Memory input input output output files files
  unstarted None = misuse_unstarted
  unstarted (Some command) = job_unstarted command.config command.job
