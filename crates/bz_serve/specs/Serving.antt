-- What a run of requests promises, and each of its parts.
use Rattle.std.specs.Prelude.{◌≡◌, ◌⊎◌, ◌≤◌, ◌+◌, ℕ, List, [], ◌∷◌, ◌++◌, Option, Some, option_map, Result, Ok, Err, IfOk, IfErr, OnOk, OnErr}
use Rattle.std.specs.List.{AllByRecursion}
use Rattle.bz_base.specs.Refusals.{IsFailure}
use Rattle.bz_base.specs.declared.error.Error.{Error}
use Rattle.bz_base.specs.declared.error.Error.TheVariants as errors
use Rattle.bz_files.specs.Count.{CountsFaults}
use Rattle.bz_files.specs.Looked.{Faulted, Looked}
use Rattle.bz_files.specs.World.{World, Told, in_view}
use Rattle.bz_files.specs.declared.files.Files as files_trait
use Rattle.bz_files.specs.declared.text.IoFault.{IoFault}
use Rattle.bz_files.specs.declared.text.IoFault.TheVariants as faults
use Rattle.bz_files.specs.declared.text.TextOut as output_trait
use Rattle.bz_cache.specs.Format.{GivesOrFaults}
use Rattle.bz_proc.specs.MapsFile.{AreOfText}
use Rattle.bz_process.specs.Caching.{KeptMappings}
use Rattle.bz_process.specs.ProcessCall.{LeavesUnlessFailed}
use Rattle.bz_requests.specs.Requests.{Request}
use Rattle.bz_requests.specs.declared.requests.Config.{Config}
use Rattle.bz_symq.specs.Outcome.{done_with, refused}
use Rattle.bz_symq.specs.Reply.{text_of}
use Rattle.bz_symq.specs.Run.{Ends, IsOrFails, WritesFront}
use Rattle.bz_symq.specs.declared.reply.Said.{Said}
use Rattle.bz_symq.specs.declared.status.Status.{Status}
use Rattle.bz_symq.specs.declared.status.Status.TheVariants as statuses
use Rattle.bz_symq.specs.Kept.{KeptState, opts_in}
use Rattle.bz_serve.specs.RequestRuns.{reads_from, run_reads, run_text, texts_from, turns, worlds_after}
use Rattle.bz_serve.specs.RequestSteps.{Doing, RequestOutcome}
use Rattle.bz_serve.specs.SomeReplies.{MayReply, WritesReplies}
use Rattle.bz_serve.specs.declared.serving.Stop.{Stop}
use Rattle.bz_serve.specs.declared.serving.Stop.TheVariants as stops

-- a refusal is said by its name, unless memory runs out; a failure stays one
abbrev pub SaysRefusal : Error → Result Said Error → Type 0
SaysRefusal errors.ReadFault result = result ≡ Err errors.ReadFault
SaysRefusal errors.OutOfMemory result = result ≡ Err errors.OutOfMemory
SaysRefusal refusal (Ok given) = text_of given ≡ (refused refusal).text
SaysRefusal refusal (Err e) = e ≡ errors.OutOfMemory

-- the text is said, unless memory runs out
abbrev pub Says : List ℕ → Result Said Error → Type 0
Says text (Ok given) = text_of given ≡ text
Says text (Err e) = e ≡ errors.OutOfMemory

-- it stopped for this
abbrev pub StopsBy : {A : Type 0} → Stop → Result A Stop → Type 0
StopsBy stop (Ok given) = ⊥
StopsBy stop (Err e) = e ≡ stop

-- the writing of a text stopped the run, or it didn't
abbrev pub StopsAs : Result (Unit {0}) IoFault → Result (Unit {0}) Stop → Type 0
StopsAs (Ok given) result = result ≡ Ok tt
StopsAs (Err faults.Fault) result = result ≡ Err stops.Output
StopsAs (Err faults.OutOfMemory) result = result ≡ Err stops.Memory

-- what a failure stops the run for
abbrev pub stop_by : Error → Stop
stop_by errors.ReadFault = stops.Files
stop_by _ = stops.Memory

-- whatever was told, some text tells the kept mappings of each process
abbrev pub AreKeptOfText : KeptMappings → Type 0
AreKeptOfText kept = AllByRecursion (λ entry. AreOfText entry.0 entry.1) kept

-- worlds are told, and one is in view
abbrev pub ToldWorlds : Option (List World) → (List World → Type 0) → Type 0
ToldWorlds told P = (world : World) (later : List World) → told ≡ Some (world ∷ later) → P (world ∷ later)

-- a call of a symbolizer does what is expected of it in the world in view
pub record Does {A B F : Type 0} (looks : files_trait.Ghosts F) (reading : A → B) (doing : Doing B) (result : Result A Error) (old now : KeptState) (before after : F) : Type 0 where
  pub answer : Told (in_view (looks.worlds before)) (λ world. GivesOrFaults reading (doing.answer old world) result)
  pub state : Told (in_view (looks.worlds before)) (λ world. LeavesUnlessFailed result (doing.after old world) now)
  pub reads : Told (in_view (looks.worlds before)) (λ world. looks.opens after ≤ looks.opens before + doing.reads old world)
  pub looked : Looked looks before after (Faulted result)

-- what is said to a request, and what it leaves: those of its step in the world in view
pub record Replied {F : Type 0} (looks : files_trait.Ghosts F) (step : KeptState → World → RequestOutcome) (result : Result Said Error) (old now : KeptState) (before after : F) : Type 0 where
  pub said : Told (in_view (looks.worlds before)) (λ world. IfOk result (λ given. text_of given ≡ (step old world).text))
  pub state : Told (in_view (looks.worlds before)) (λ world. OnOk result (now ≡ (step old world).state))
  pub reads : Told (in_view (looks.worlds before)) (λ world. looks.opens after ≤ looks.opens before + (step old world).reads)
  pub failure : IfErr result IsFailure
  pub looked : Looked looks before after (Faulted result)

-- a request was answered in the world in view, and its text was written, or a front of it; of an empty
-- text nothing was. Whatever the files tell, what an answered call wrote is a text that may be said
pub record Served {W F : Type 0} (writes : output_trait.Ghosts W) (looks : files_trait.Ghosts F) (step : KeptState → World → RequestOutcome) (MaySay : List ℕ → Type 0) (result : Result (Unit {0}) Stop)
    (old now : KeptState) (output_before output_after : W) (files_before files_after : F) : Type 0 where
  pub whole : Told (in_view (looks.worlds files_before)) (λ world. Told (writes.written output_before) (λ was.
      OnOk result (writes.written output_after ≡ Some (was ++ (step old world).text))))
  pub front : Told (in_view (looks.worlds files_before)) (λ world. Told (writes.written output_before) (λ was.
      OnErr result (WritesFront (step old world).text was (writes.written output_after))))
  pub untold : Told (writes.written output_before) (λ was. OnOk result ((text : List ℕ) × MaySay text × (writes.written output_after ≡ Some (was ++ text))))
  pub silent : Told (in_view (looks.worlds files_before)) (λ world. (step old world).text ≡ [] → output_after ≡ output_before)
  pub state : Told (in_view (looks.worlds files_before)) (λ world. OnOk result (now ≡ (step old world).state))
  pub reads : Told (in_view (looks.worlds files_before)) (λ world. looks.opens files_after ≤ looks.opens files_before + (step old world).reads)
  pub output_faults : CountsFaults (writes.faults output_before) (writes.faults output_after) (StopsBy stops.Output result)
  pub looked : Looked looks files_before files_after (StopsBy stops.Files result)

-- requests were answered, each in its world, and their texts were written, or a front of them. Nothing
-- is written where these are empty. What a request comes to may depend on the id of the own process.
-- Whatever the files tell, an answered call wrote for each a text that may be said to it
pub record ServesAll {A W F : Type 0} (writes : output_trait.Ghosts W) (looks : files_trait.Ghosts F) (step : ℕ → A → KeptState → World → RequestOutcome) (MaySay : A → List ℕ → Type 0) (requests : List A) (result : Result (Unit {0}) Stop)
    (old : KeptState) (output_before output_after : W) (files_before files_after : F) : Type 0 where
  pub whole : ToldWorlds (looks.worlds files_before) (λ worlds. Told (writes.written output_before) (λ was.
      OnOk result (writes.written output_after ≡ Some (was ++ texts_from (step (looks.pid files_before)) old (turns requests worlds)))))
  pub front : ToldWorlds (looks.worlds files_before) (λ worlds. Told (writes.written output_before) (λ was.
      OnErr result (WritesFront (texts_from (step (looks.pid files_before)) old (turns requests worlds)) was (writes.written output_after))))
  pub untold : Told (writes.written output_before) (λ was. OnOk result (WritesReplies MaySay requests was (writes.written output_after)))
  pub silent : ToldWorlds (looks.worlds files_before) (λ worlds. texts_from (step (looks.pid files_before)) old (turns requests worlds) ≡ [] → output_after ≡ output_before)
  pub reads : ToldWorlds (looks.worlds files_before) (λ worlds. looks.opens files_after ≤ looks.opens files_before + reads_from (step (looks.pid files_before)) old (turns requests worlds))
  pub turned : OnOk result (looks.worlds files_after ≡ option_map (worlds_after requests) (looks.worlds files_before))
  pub output_faults : CountsFaults (writes.faults output_before) (writes.faults output_after) (StopsBy stops.Output result)
  pub files_faults : CountsFaults (looks.faults files_before) (looks.faults files_after) (StopsBy stops.Files result)
  pub pid : looks.pid files_after ≡ looks.pid files_before

-- a run of requests that didn't stop is done, and one that did ends by what stopped it
abbrev pub EndsAs : Result (Unit {0}) Stop → Status → Type 0
EndsAs (Ok given) status = status ≡ statuses.Done
EndsAs (Err stops.Files) status = status ≡ statuses.Fault
EndsAs (Err stops.Output) status = status ≡ statuses.Fault
EndsAs (Err stops.Memory) status = status ≡ statuses.Memory

-- all that a run of requests promises
pub record Serves {W F : Type 0} (writes : output_trait.Ghosts W) (looks : files_trait.Ghosts F) (config : Config) (requests : List Request) (ended : Status)
    (output_before output_after : W) (files_before files_after : F) : Type 0 where
  -- status 0 means that the run is what was written, and status 4 or 5 that a front of it is
  pub ends : ToldWorlds (looks.worlds files_before) (λ worlds. Told (writes.written output_before) (λ was.
      Ends (done_with (run_text config requests worlds (looks.pid files_before))) was ended (writes.written output_after)))
  -- whatever the files tell, status 0 means that what was written is replies that the requests may have
  pub answered : ended ≡ statuses.Done → Told (writes.written output_before) (λ was. WritesReplies (MayReply (opts_in config)) requests was (writes.written output_after))
  -- where there is nothing to write, the output is left alone
  pub silent : ToldWorlds (looks.worlds files_before) (λ worlds. run_text config requests worlds (looks.pid files_before) ≡ [] → output_after ≡ output_before)
  -- no other status comes
  pub status : IsOrFails statuses.Done ended
  -- no more files are read than the requests may read, each in its state and its world
  pub reads : ToldWorlds (looks.worlds files_before) (λ worlds. looks.opens files_after ≤ looks.opens files_before + run_reads config requests worlds (looks.pid files_before))
  -- status 0 means that each request brought the next world into view, as long as there was a next one,
  -- and nothing else did
  pub turned : ended ≡ statuses.Done → looks.worlds files_after ≡ option_map (worlds_after requests) (looks.worlds files_before)
  -- a fault comes exactly where one call failed, of the files or of the output
  pub fails : (CountsFaults (writes.faults output_before) (writes.faults output_after) (ended ≡ statuses.Fault) × (looks.faults files_after ≡ looks.faults files_before))
      ⊎ (CountsFaults (looks.faults files_before) (looks.faults files_after) (ended ≡ statuses.Fault) × (writes.faults output_after ≡ writes.faults output_before))
  pub pid : looks.pid files_after ≡ looks.pid files_before
