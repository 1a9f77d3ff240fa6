-- What is done to input and files for a reply to an input of frames, and in which order.
use Rattle.std.specs.Prelude.{◌≡◌, ◌⊎◌, ◌↔◌, ◌+◌, ◌≤◌, ℕ, List, length, Result, IfOk}
use Rattle.bz_base.specs.declared.error.Error.{Error}
use Rattle.bz_base.specs.declared.types.FindSymOpts.{FindSymOpts}
use Rattle.bz_files.specs.Looked.{Faulted}
use Rattle.bz_files.specs.World.{Told, in_view}
use Rattle.bz_files.specs.declared.files.Files as files_trait
use Rattle.bz_files.specs.declared.text.TextIn as input_trait
use Rattle.bz_store.specs.Frames.{Frame, FrameReading}
use Rattle.bz_requests.specs.InputText.{AsksFor, IsBadInput, IsReadWhole, MovesAtMost, greatest_input}
use Rattle.bz_symq.specs.Reply.{IsBadReply, Replies, text_of}
use Rattle.bz_symq.specs.Run.{IsNoFailure}
use Rattle.bz_symq.specs.Turns.{FailsAtOne}
use Rattle.bz_symq.specs.declared.reply.Reply.{Reply}
use Rattle.bz_symq.specs.declared.status.Status.TheVariants as statuses
use Rattle.bz_serve.specs.FrameLines.{IsFrame, frames_in}
use Rattle.bz_serve.specs.FrameReply.{AreFound, opens_by}
use Rattle.bz_serve.specs.FrameRun.{frames_outcome}
use Rattle.bz_serve.specs.FrameText.{frame_texts}

-- a reply that the run is done has the texts of what was found for the input's frames, in as many reads
-- as that takes
pub record IsRunReply (root : List ℕ) (opts : FindSymOpts) (text said : List ℕ) (opens_before opens_after : ℕ) : Type 0 where
  pub frames : List Frame
  pub readings : List FrameReading
  pub asks : AsksFor IsFrame text frames
  pub readings_are : AreFound root opts frames readings opens_before opens_after
  pub said_is : said ≡ frame_texts frames readings

-- a reply was to be made: the input comes first, then the files
pub record RepliesToInput {R F : Type 0} (reads : input_trait.Ghosts R) (looks : files_trait.Ghosts F) (root : List ℕ) (opts : FindSymOpts) (result : Result Reply Error)
    (input_before input_after : R) (files_before files_after : F) : Type 0 where
  -- it is the outcome of the run, which is done or has a bad input
  pub reply : Told (reads.left input_before) (λ text. Told (in_view (looks.worlds files_before)) (λ world. Replies (frames_outcome world root opts text) result))
  pub status : IfOk result (λ given. (given.status ≡ statuses.Input) ⊎ (given.status ≡ statuses.Done))
  pub no_failure : IfOk result (λ given. IsNoFailure given.status)
  -- and whatever the files tell, the texts are of what was found, and what is bad of an input is named
  pub answered : Told (reads.left input_before) (λ text. IfOk result (λ given.
      given.status ≡ statuses.Done → IsRunReply root opts text (text_of given.said) (looks.opens files_before) (looks.opens files_after)))
  pub named : Told (reads.left input_before) (λ text. IfOk result (λ given. IsBadReply IsFrame text given))
  -- the input alone decides on status 3
  pub input : Told (reads.left input_before) (λ text. IfOk result (λ given. (given.status ≡ statuses.Input) ↔ IsBadInput IsFrame text))
  -- where the run is done, so many files were read
  pub opens : Told (reads.left input_before) (λ text. Told (in_view (looks.worlds files_before)) (λ world. IfOk result (λ given.
      given.status ≡ statuses.Done → looks.opens files_after ≡ opens_by world root opts (frames_in text) (looks.opens files_before))))
  -- no more files are read than the input has frames, whatever is answered
  pub most : Told (reads.left input_before) (λ text. (frames : List Frame) → AsksFor IsFrame text frames → looks.opens files_after ≤ looks.opens files_before + length frames)
  -- over a bad input no file is looked at, and until the input is read none
  pub unlooked : Told (reads.left input_before) (λ text. IsBadInput IsFrame text → files_after ≡ files_before)
  pub order : (files_after ≡ files_before) ⊎ IsReadWhole (reads.left input_before) (reads.left input_after)
  -- a reply that is given has read the input, and none reads on past the byte that makes it too long
  pub read : IfOk result (λ given. IsReadWhole (reads.left input_before) (reads.left input_after))
  pub bounded : MovesAtMost (greatest_input + 1) (reads.left input_before) (reads.left input_after)
  -- one side at most failed
  pub fails : FailsAtOne reads looks (Faulted result) input_before input_after files_before files_after
