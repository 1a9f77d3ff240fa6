-- What a run over an input of requests promises.
use Rattle.std.specs.Prelude.{◌≡◌, ◌⊎◌, ◌+◌, ◌≤◌, [], option_map, Result, IfOk}
use Rattle.bz_base.specs.declared.error.Error.{Error}
use Rattle.bz_files.specs.Count.{CountsFaults}
use Rattle.bz_files.specs.Looked.{Faulted}
use Rattle.bz_files.specs.World.{Told}
use Rattle.bz_files.specs.declared.files.Files as files_trait
use Rattle.bz_files.specs.declared.text.TextIn as input_trait
use Rattle.bz_files.specs.declared.text.TextOut as output_trait
use Rattle.bz_requests.specs.Requests.{IsRequest}
use Rattle.bz_requests.specs.declared.requests.Config.{Config}
use Rattle.bz_serve.specs.RequestRuns.{worlds_after}
use Rattle.bz_serve.specs.Serving.{ToldWorlds}
use Rattle.bz_requests.specs.InputText.{IsBadInput, IsReadWhole, MovesAtMost, greatest_input}
use Rattle.bz_symq.specs.Run.{Ends, IsBadNamed, IsNoFailure, IsOrFails}
use Rattle.bz_symq.specs.declared.status.Status.{Status}
use Rattle.bz_symq.specs.declared.status.Status.TheVariants as statuses
use Rattle.bz_serve.specs.Asked.{IsServed, IsSomeServed, asked_in, asked_of, outcome_by, reads_by}
use Rattle.bz_serve.specs.Sides.{FailsAtOneSide}
use Rattle.bz_serve.specs.declared.input.Asked.{Asked}
use Rattle.bz_serve.specs.declared.input.Asked.TheVariants as askeds

-- a bad input is answered by status 3
abbrev pub HasInputStatus : Asked → Type 0
HasInputStatus (askeds.Requests requests) = Unit {0}
HasInputStatus (askeds.Bad reply) = reply.status ≡ statuses.Input

-- the input was to be read, and its requests
pub record ReadsRequests {R : Type 0} (reads : input_trait.Ghosts R) (result : Result Asked Error) (before after : R) : Type 0 where
  pub asked : Told (reads.left before) (λ text. IfOk result (λ given. asked_of given ≡ asked_in text))
  pub status : IfOk result HasInputStatus
  pub read : IfOk result (λ given. IsReadWhole (reads.left before) (reads.left after))
  pub bounded : MovesAtMost (greatest_input + 1) (reads.left before) (reads.left after)
  pub counts : CountsFaults (reads.faults before) (reads.faults after) (Faulted result)

-- all that a run over an input of requests promises
pub record RunsRequests {R W F : Type 0} (reads : input_trait.Ghosts R) (writes : output_trait.Ghosts W) (looks : files_trait.Ghosts F) (config : Config) (ended : Status)
    (input_before input_after : R) (output_before output_after : W) (files_before files_after : F) : Type 0 where
  -- the run wrote the outcome's text and ended by its status, or it failed and wrote a front of that
  -- text
  pub ends : Told (reads.left input_before) (λ text. ToldWorlds (looks.worlds files_before) (λ worlds. Told (writes.written output_before) (λ old.
      Ends (outcome_by config worlds (looks.pid files_before) (asked_in text)) old ended (writes.written output_after))))
  -- status 0 means that the input was requests, and that the texts of their answers, each in its world,
  -- are what was written
  pub done : ended ≡ statuses.Done → Told (reads.left input_before) (λ text. ToldWorlds (looks.worlds files_before) (λ worlds. Told (writes.written output_before) (λ old.
      IsServed config text worlds (looks.pid files_before) old (writes.written output_after))))
  -- and whatever the files tell, that what was written is one reply to each request, which that request
  -- may have
  pub answered : ended ≡ statuses.Done → Told (reads.left input_before) (λ text. Told (writes.written output_before) (λ old.
      IsSomeServed config text old (writes.written output_after)))
  -- status 3 means that the input is bad, and a bad input is answered by it, unless the run fails
  pub input : Told (reads.left input_before) (λ text. (ended ≡ statuses.Input → IsBadInput IsRequest text) × (IsBadInput IsRequest text → IsOrFails statuses.Input ended))
  -- and that what was written names what is bad of it, whatever the files tell
  pub named : ended ≡ statuses.Input → Told (reads.left input_before) (λ text. Told (writes.written output_before) (λ old.
      IsBadNamed IsRequest text old (writes.written output_after)))
  -- no status comes but 0, 3, 4 and 5
  pub status : (ended ≡ statuses.Input) ⊎ IsOrFails statuses.Done ended
  -- over a bad input no file is looked at
  pub unlooked : Told (reads.left input_before) (λ text. IsBadInput IsRequest text → files_after ≡ files_before)
  -- a run that doesn't fail has read the input, and no run reads on past the byte that makes it too
  -- long
  pub read : IsNoFailure ended → IsReadWhole (reads.left input_before) (reads.left input_after)
  pub bounded : MovesAtMost (greatest_input + 1) (reads.left input_before) (reads.left input_after)
  -- until the input is read, no file is looked at and nothing is written
  pub order : ((files_after ≡ files_before) × (output_after ≡ output_before)) ⊎ IsReadWhole (reads.left input_before) (reads.left input_after)
  -- where there is nothing to write, the output is left alone
  pub silent : Told (reads.left input_before) (λ text. ToldWorlds (looks.worlds files_before) (λ worlds.
      (outcome_by config worlds (looks.pid files_before) (asked_in text)).text ≡ [] → output_after ≡ output_before))
  -- no more files are read than the requests may read, each in its state and its world
  pub opens : Told (reads.left input_before) (λ text. ToldWorlds (looks.worlds files_before) (λ worlds.
      looks.opens files_after ≤ looks.opens files_before + reads_by config worlds (looks.pid files_before) (asked_in text)))
  -- status 0 means that each request brought the next world into view, as long as there was a next one,
  -- and nothing else did
  pub turned : ended ≡ statuses.Done → Told (reads.left input_before) (λ text. IfOk (asked_in text) (λ requests.
      looks.worlds files_after ≡ option_map (worlds_after requests) (looks.worlds files_before)))
  -- a fault comes exactly where one call failed, of input, output or files
  pub fails : FailsAtOneSide reads writes looks ended input_before input_after output_before output_after files_before files_after
  pub pid : looks.pid files_after ≡ looks.pid files_before
