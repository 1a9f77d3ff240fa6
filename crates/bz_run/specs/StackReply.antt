-- What the reply to an input of stacks is, and what is done to input and files for it.
use Rattle.std.specs.Prelude.{◌≡◌, ◌≢◌, ◌⊎◌, ◌↔◌, ℕ, ◌+◌, List, Option, Result, Ok, IfOk}
use Rattle.bz_base.specs.Answer.{Answer}
use Rattle.bz_base.specs.declared.error.Error.{Error}
use Rattle.bz_files.specs.World.{World, Told}
use Rattle.bz_files.specs.declared.text.TextIn as input_trait
use Rattle.bz_requests.specs.declared.requests.Config.{Config}
use Rattle.bz_stacks.specs.Spelling.{IsStack, stacks_in}
use Rattle.bz_stacks.specs.Stack.{CountedStack}
use Rattle.bz_stacks.specs.Text.{folded_text}
use Rattle.bz_symbolize.specs.Promise.{IsBreakpadBatch}
use Rattle.bz_symq.specs.Command.{Breakpad}
use Rattle.bz_requests.specs.InputText.{AsksFor, IsBadInput, IsReadWhole, MovesAtMost, greatest_input}
use Rattle.bz_symq.specs.Kept.{opts_in}
use Rattle.bz_symq.specs.Reply.{IsBadReply, IsSomeRefusal, Replies, text_of}
use Rattle.bz_symq.specs.Run.{IsNoFailure}
use Rattle.bz_symq.specs.Targets.{IsSomeFileCause}
use Rattle.bz_symq.specs.declared.reply.Reply.{Reply}
use Rattle.bz_symq.specs.declared.status.Status.TheVariants as statuses
use Rattle.bz_stacks.specs.Fold.{addrs_of, seen_by}
use Rattle.bz_run.specs.StackOutcome.{stacks_outcome}

-- the text is that of the stacks by the plain answers of some Breakpad file
pub record IsSomeText (config : Config) (stacks : List CountedStack) (text : List ℕ) : Type 0 where
  pub answers : List Answer
  pub bytes : List ℕ
  pub answers_are : IsBreakpadBatch (opts_in config) bytes (addrs_of stacks) answers
  pub text_is : text ≡ folded_text (seen_by stacks answers)

-- a reply that the run is done has such a text
abbrev pub IsTextReply : Config → List CountedStack → Reply → Type 0
IsTextReply config stacks reply = reply.status ≡ statuses.Done → IsSomeText config stacks (text_of reply.said)

-- and its stacks are those of the input
abbrev pub IsInputReply : Config → List ℕ → Reply → Type 0
IsInputReply config input reply = reply.status ≡ statuses.Done → (stacks : List CountedStack) × (stacks_in input ≡ Ok stacks) × IsSomeText config stacks (text_of reply.said)

-- and the input isn't too long
abbrev pub IsRunReply : Config → List ℕ → Reply → Type 0
IsRunReply config input reply = reply.status ≡ statuses.Done → (stacks : List CountedStack) × AsksFor IsStack input stacks × IsSomeText config stacks (text_of reply.said)

-- a reply that the stacks are refused names a refusal that a Breakpad file may have, and
-- the run is asked for stacks
abbrev pub IsRunRefusal : List ℕ → List ℕ → Reply → Type 0
IsRunRefusal path input reply = reply.status ≡ statuses.Refused →
    (stacks : List CountedStack) × AsksFor IsStack input stacks × IsSomeRefusal (IsSomeFileCause (Breakpad path)) (text_of reply.said)

-- a reply to an input of stacks was to be made, with what is left of the input, and the world in view
pub record RepliesToStacks (path : List ℕ) (config : Config) (left : Option (List ℕ)) (seen : Option World) (result : Result Reply Error) : Type 0 where
  -- it is the outcome of the run
  pub reply : Told left (λ text. Told seen (λ world. Replies (stacks_outcome path config text world) result))
  -- and whatever the files tell, the text is that of the stacks by the answers of some Breakpad file
  pub answered : Told left (λ text. IfOk result (λ given. IsRunReply config text given))
  -- and a refusal is by one of three causes
  pub refusal : Told left (λ text. IfOk result (λ given. IsRunRefusal path text given))
  pub no_failure : IfOk result (λ given. IsNoFailure given.status)
  -- status 2 is for words that give no command, and the input alone decides on status 3
  pub usage : IfOk result (λ given. given.status ≢ statuses.Usage)
  pub input : Told left (λ text. IfOk result (λ given. (given.status ≡ statuses.Input) ↔ IsBadInput IsStack text))
  -- and a reply of status 3 names what is bad of the input
  pub named : Told left (λ text. IfOk result (λ given. IsBadReply IsStack text given))

-- a reply was to be made: the input comes first, then the file
pub record TakesTurns {R F : Type 0} (reads : input_trait.Ghosts R) (result : Result Reply Error) (input_before input_after : R) (files_before files_after : F) : Type 0 where
  -- for a bad input no file is looked at
  pub unlooked : Told (reads.left input_before) (λ text. IsBadInput IsStack text → files_after ≡ files_before)
  -- a reply that is given has read the input, and none reads on past the byte that makes it too long
  pub read : IfOk result (λ given. IsReadWhole (reads.left input_before) (reads.left input_after))
  pub bounded : MovesAtMost (greatest_input + 1) (reads.left input_before) (reads.left input_after)
  -- until the input is read, no file is looked at
  pub order : (files_after ≡ files_before) ⊎ IsReadWhole (reads.left input_before) (reads.left input_after)
