-- What a run over the words of a command line promises.
use Rattle.std.specs.Prelude.{◌≡◌, ℕ, List, Option, Some, None}
use Rattle.bz_files.specs.declared.files.Files as files_trait
use Rattle.bz_files.specs.declared.text.TextIn as input_trait
use Rattle.bz_files.specs.declared.text.TextOut as output_trait
use Rattle.bz_requests.specs.Requests as requests
use Rattle.bz_requests.specs.declared.requests.Config.{Config}
use Rattle.bz_run.specs.StackRun.{RunsStacks}
use Rattle.bz_serve.specs.FrameRun.{RunsFrames}
use Rattle.bz_symq.specs.Command as asked
use Rattle.bz_symq.specs.Kept.{opts_in}
use Rattle.bz_symq.specs.Run as one_command
use Rattle.bz_symq.specs.Run.{IsOrFails}
use Rattle.bz_symq.specs.declared.status.Status.{Status}
use Rattle.bz_symq.specs.declared.status.Status.TheVariants as statuses
use Rattle.bz_words.specs.Command as words
use Rattle.bz_words.specs.Command.{Batch, Command, Frames, Generate, Job, Make, Serve, Stacks, command_in}
use Rattle.bz_run.specs.Generated.{RunsGenerated}
use Rattle.bz_run.specs.Misuse.{Misused}
use Rattle.bz_serve.specs.Requests.{RunsRequests}
use Rattle.bz_serve.specs.Sides.{FailsAtOneSide}

-- the target of a request, as one of a batch
abbrev pub asked_target : requests.Target → asked.Target
asked_target (requests.Breakpad path) = asked.OneFile (asked.Breakpad path)
asked_target (requests.Gsym path) = asked.OneFile (asked.Gsym path)
asked_target (requests.Elf path) = asked.OneFile (asked.Elf path)
asked_target (requests.Process number) = asked.OneProcess number

-- the product that words ask for, as one of a run
abbrev pub asked_product : words.Product → asked.Product
asked_product (words.Converted path) = asked.Converted path
asked_product (words.Canonical path) = asked.Canonical path

module _ {R W F : Type 0} (reads : input_trait.Ghosts R) (writes : output_trait.Ghosts W) (looks : files_trait.Ghosts F) where
  -- the run of a job under the settings of its command
  abbrev pub RunsJob : Config → Job → Status → R → R → W → W → F → F → Type 0
  RunsJob config (Batch target kind) ended input_before input_after output_before output_after files_before files_after =
      one_command.Runs reads writes looks (asked.Batch (record { target = asked_target target; kind = kind; config = config })) ended input_before input_after output_before output_after files_before files_after
  RunsJob config Serve ended input_before input_after output_before output_after files_before files_after =
      RunsRequests reads writes looks config ended input_before input_after output_before output_after files_before files_after
  RunsJob config (Generate seed functions addresses) ended input_before input_after output_before output_after files_before files_after =
      RunsGenerated writes config seed functions addresses ended input_before input_after output_before output_after files_before files_after
  RunsJob config (Make product) ended input_before input_after output_before output_after files_before files_after =
      one_command.Runs reads writes looks (asked.Make (asked_product product)) ended input_before input_after output_before output_after files_before files_after
  RunsJob config (Frames root) ended input_before input_after output_before output_after files_before files_after =
      RunsFrames reads writes looks root (opts_in config) ended input_before input_after output_before output_after files_before files_after
  RunsJob config (Stacks path) ended input_before input_after output_before output_after files_before files_after =
      RunsStacks reads writes looks path config ended input_before input_after output_before output_after files_before files_after

  -- the run of a command, if there is one
  abbrev pub RunsCommand : Option Command → Status → R → R → W → W → F → F → Type 0
  RunsCommand None ended input_before input_after output_before output_after files_before files_after =
      Misused writes ended input_before input_after output_before output_after files_before files_after
  RunsCommand (Some command) ended input_before input_after output_before output_after files_before files_after =
      RunsJob command.config command.job ended input_before input_after output_before output_after files_before files_after

-- all that a run over words promises
pub record Runs {R W F : Type 0} (reads : input_trait.Ghosts R) (writes : output_trait.Ghosts W) (looks : files_trait.Ghosts F) (words : List (List ℕ)) (ended : Status)
    (input_before input_after : R) (output_before output_after : W) (files_before files_after : F) : Type 0 where
  -- it is the run of the command that the words give
  pub run : RunsCommand reads writes looks (command_in words) ended input_before input_after output_before output_after files_before files_after
  -- status 2 means that the words give no command, and such words are answered by
  -- it, unless the run fails
  pub usage : (ended ≡ statuses.Usage → command_in words ≡ None) × (command_in words ≡ None → IsOrFails statuses.Usage ended)
  -- status 4 comes exactly where one call failed, of input, output or files
  pub fails : FailsAtOneSide reads writes looks ended input_before input_after output_before output_after files_before files_after
