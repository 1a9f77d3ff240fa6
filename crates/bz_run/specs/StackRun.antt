-- What a run over an input of stacks promises: what it writes and ends with, and
-- what it does to each side.
use Rattle.std.specs.Prelude.{◌≡◌, ◌≢◌, ◌⊎◌, ℕ, ◌+◌, List, [], ◌++◌, Option, Some}
use Rattle.bz_base.specs.Answer.{Answer}
use Rattle.bz_base.specs.InputKind.{InFile}
use Rattle.bz_base.specs.declared.error.Error.{Error}
use Rattle.bz_breakpad.specs.Grammar.{IsFile}
use Rattle.bz_breakpad.specs.Table.{Table}
use Rattle.bz_files.specs.Count.{counted}
use Rattle.bz_files.specs.Looked.{ReadsOne}
use Rattle.bz_files.specs.World.{World, Told, entry_at, in_view}
use Rattle.bz_files.specs.declared.files.Files as files_trait
use Rattle.bz_files.specs.declared.text.TextIn as input_trait
use Rattle.bz_files.specs.declared.text.TextOut as output_trait
use Rattle.bz_requests.specs.declared.requests.Config.{Config}
use Rattle.bz_stacks.specs.Spelling.{IsStack}
use Rattle.bz_stacks.specs.Stack.{CountedStack}
use Rattle.bz_stacks.specs.Text.{folded_text}
use Rattle.bz_symbolize.specs.Promise.{IsBreakpadBatch}
use Rattle.bz_symq.specs.Command.{Breakpad}
use Rattle.bz_requests.specs.InputText.{AsksFor, IsBadInput, IsReadWhole, MovesAtMost, greatest_input}
use Rattle.bz_symq.specs.Kept.{opts_in}
use Rattle.bz_symq.specs.Outcome.{refused}
use Rattle.bz_symq.specs.Run.{Ends, Fails, IsBadNamed, IsNoFailure, IsOrFails}
use Rattle.bz_symq.specs.Targets.{HasFile, IsFileCause, IsRefusalOf, IsSomeFileCause}
use Rattle.bz_symq.specs.declared.status.Status.{Status}
use Rattle.bz_symq.specs.declared.status.Status.TheVariants as statuses
use Rattle.bz_stacks.specs.Fold.{addrs_of, seen_by}
use Rattle.bz_run.specs.StackOutcome.{stacks_outcome}

-- the input is stacks, and a Breakpad file lies at the path
pub record IsFoldable (path text : List ℕ) (world : World) : Type 0 where
  pub stacks : List CountedStack
  pub asks : AsksFor IsStack text stacks
  pub there : HasFile (λ bytes. (table : Table) × IsFile bytes table) (entry_at world path)

-- the input was stacks; their text, by the plain answers of the file's table at the addresses of each
-- of them, is what was written
pub record IsFolded (path : List ℕ) (config : Config) (text : List ℕ) (world : World) (old : List ℕ) (new : Option (List ℕ)) : Type 0 where
  pub stacks : List CountedStack
  pub answers : List Answer
  pub asks : AsksFor IsStack text stacks
  pub answers_are : HasFile (λ bytes. IsBreakpadBatch (opts_in config) bytes (addrs_of stacks) answers) (entry_at world path)
  pub written : new ≡ Some (old ++ folded_text (seen_by stacks answers))

-- and whatever the files tell, their text by the plain answers of some Breakpad file
pub record IsSomeFolded (config : Config) (text old : List ℕ) (new : Option (List ℕ)) : Type 0 where
  pub stacks : List CountedStack
  pub answers : List Answer
  pub bytes : List ℕ
  pub asks : AsksFor IsStack text stacks
  pub answers_are : IsBreakpadBatch (opts_in config) bytes (addrs_of stacks) answers
  pub written : new ≡ Some (old ++ folded_text (seen_by stacks answers))

-- the input is stacks, and what lies at the path has no answers
pub record IsRefusable (path text : List ℕ) (world : World) : Type 0 where
  pub stacks : List CountedStack
  pub refusal : Error
  pub asks : AsksFor IsStack text stacks
  pub cause : IsFileCause (IsRefusalOf (Breakpad path) InFile) (entry_at world path) refusal

-- the input was such stacks: the refusal is what was written
pub record IsRefused (path text : List ℕ) (world : World) (old : List ℕ) (new : Option (List ℕ)) : Type 0 where
  pub refusable : IsRefusable path text world
  pub written : new ≡ Some (old ++ (refused refusable.refusal).text)

-- and whatever the files tell, the input was stacks, and a refusal that a Breakpad file may
-- have is what was written
pub record IsSomeRefused (path text old : List ℕ) (new : Option (List ℕ)) : Type 0 where
  pub stacks : List CountedStack
  pub refusal : Error
  pub asks : AsksFor IsStack text stacks
  pub cause : IsSomeFileCause (Breakpad path) refusal
  pub written : new ≡ Some (old ++ (refused refusal).text)

-- all that a run over an input of stacks promises
pub record RunsStacks {R W F : Type 0} (reads : input_trait.Ghosts R) (writes : output_trait.Ghosts W) (looks : files_trait.Ghosts F) (path : List ℕ) (config : Config) (ended : Status)
    (input_before input_after : R) (output_before output_after : W) (files_before files_after : F) : Type 0 where
  -- the run wrote the outcome's text and ended by its status, or it failed and
  -- wrote a front of that text
  pub ends : Told (reads.left input_before) (λ text. Told (in_view (looks.worlds files_before)) (λ world. Told (writes.written output_before) (λ old.
      Ends (stacks_outcome path config text world) old ended (writes.written output_after))))
  pub status : Told (reads.left input_before) (λ text. Told (in_view (looks.worlds files_before)) (λ world.
      IsOrFails (stacks_outcome path config text world).status ended))
  -- status 0 means that the input was stacks, and that these folded by the answers of the Breakpad
  -- file are what was written
  pub done : ended ≡ statuses.Done → Told (reads.left input_before) (λ text. Told (in_view (looks.worlds files_before)) (λ world.
      Told (writes.written output_before) (λ old. IsFolded path config text world old (writes.written output_after))))
  -- and whatever the files tell, that they are folded by the answers of some Breakpad file
  pub answered : ended ≡ statuses.Done → Told (reads.left input_before) (λ text. Told (writes.written output_before) (λ old.
      IsSomeFolded config text old (writes.written output_after)))
  -- status 1 means that the input was stacks, that what lies at the path has no answers, and that the
  -- refusal is what was written
  pub refused : ended ≡ statuses.Refused → Told (reads.left input_before) (λ text. Told (in_view (looks.worlds files_before)) (λ world.
      Told (writes.written output_before) (λ old. IsRefused path text world old (writes.written output_after))))
  -- and whatever the files tell, that the refusal is by one of three causes
  pub refusal : ended ≡ statuses.Refused → Told (reads.left input_before) (λ text. Told (writes.written output_before) (λ old.
      IsSomeRefused path text old (writes.written output_after)))
  -- status 2 is for words that give no command, and the input alone decides on status 3
  pub usage : ended ≢ statuses.Usage
  pub input : Told (reads.left input_before) (λ text. (ended ≡ statuses.Input → IsBadInput IsStack text) × (IsBadInput IsStack text → IsOrFails statuses.Input ended))
  -- and whatever the files tell, status 3 means that what was written names what is bad of the input
  pub named : ended ≡ statuses.Input → Told (reads.left input_before) (λ text. Told (writes.written output_before) (λ old.
      IsBadNamed IsStack text old (writes.written output_after)))
  -- stacks are folded where a Breakpad file lies at the path, unless something fails or memory runs out
  pub complete : Told (reads.left input_before) (λ text. Told (in_view (looks.worlds files_before)) (λ world.
      IsFoldable path text world → IsOrFails statuses.Done ended))
  -- and refused where none does, unless something fails or memory runs out
  pub refuses : Told (reads.left input_before) (λ text. Told (in_view (looks.worlds files_before)) (λ world.
      IsRefusable path text world → IsOrFails statuses.Refused ended))
  -- for a bad input no file is looked at
  pub unlooked : Told (reads.left input_before) (λ text. IsBadInput IsStack text → files_after ≡ files_before)
  -- a run that doesn't fail has read the input, and no run reads on past the
  -- byte that makes it too long
  pub read : IsNoFailure ended → IsReadWhole (reads.left input_before) (reads.left input_after)
  pub bounded : MovesAtMost (greatest_input + 1) (reads.left input_before) (reads.left input_after)
  -- until the input is read, no file is looked at and nothing is written
  pub order : ((files_after ≡ files_before) × (output_after ≡ output_before)) ⊎ IsReadWhole (reads.left input_before) (reads.left input_after)
  -- where there is nothing to write, the output is left alone
  pub silent : Told (reads.left input_before) (λ text. Told (in_view (looks.worlds files_before)) (λ world.
      (stacks_outcome path config text world).text ≡ [] → output_after ≡ output_before))
  -- one file at most is read, and where a run is done one was
  pub most : ReadsOne looks files_before files_after
  pub opened : Told (in_view (looks.worlds files_before)) (λ world. ended ≡ statuses.Done → looks.opens files_after ≡ counted (looks.opens files_before))
  -- a fault comes exactly where a call failed, on one side at most, and of the
  -- files only before the output
  pub fails : Fails reads writes looks ended input_before input_after output_before output_after files_before files_after
  pub fault : ended ≡ statuses.Fault → (reads.faults input_after ≡ counted (reads.faults input_before))
      ⊎ ((writes.faults output_after ≡ counted (writes.faults output_before)) ⊎ (looks.faults files_after ≡ counted (looks.faults files_before)))
  pub steady : (ended ≡ statuses.Fault) ⊎ ((reads.faults input_after ≡ reads.faults input_before) × (writes.faults output_after ≡ writes.faults output_before)
      × (looks.faults files_after ≡ looks.faults files_before))
  pub before_output : (looks.faults files_after ≡ looks.faults files_before) ⊎ (output_after ≡ output_before)
