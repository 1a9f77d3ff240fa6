-- What a run over an input of frames promises.
use Rattle.std.specs.Prelude.{◌≡◌, ◌⊎◌, ◌+◌, ◌≤◌, ℕ, List, [], ◌++◌, length, map, Option, Some}
use Rattle.bz_base.specs.declared.types.FindSymOpts.{FindSymOpts}
use Rattle.bz_files.specs.Count.{counted}
use Rattle.bz_files.specs.World.{Told, World, in_view}
use Rattle.bz_files.specs.declared.files.Files as files_trait
use Rattle.bz_files.specs.declared.text.TextIn as input_trait
use Rattle.bz_files.specs.declared.text.TextOut as output_trait
use Rattle.bz_store.specs.Frames.{Frame, FrameReading}
use Rattle.bz_store.specs.Plain.{answer_in}
use Rattle.bz_requests.specs.InputText.{AsksFor, IsBadInput, IsReadWhole, MovesAtMost, by_length, greatest_input}
use Rattle.bz_symq.specs.Outcome.{Outcome, too_long}
use Rattle.bz_symq.specs.Run.{Ends, Fails, IsBadNamed, IsNoFailure, IsOrFails}
use Rattle.bz_symq.specs.declared.status.Status.{Status}
use Rattle.bz_symq.specs.declared.status.Status.TheVariants as statuses
use Rattle.bz_serve.specs.FrameLines.{IsFrame, frames_in}
use Rattle.bz_serve.specs.FrameReply.{AreFound, by_frames, opens_by}
use Rattle.bz_serve.specs.FrameText.{frame_texts}

-- what a run comes to where nothing fails
abbrev pub frames_outcome : World → List ℕ → FindSymOpts → List ℕ → Outcome
frames_outcome world root opts text = by_length text too_long (by_frames world root opts (frames_in text))

-- the texts of the world's answers to the input's frames are what was written
pub record AreAnswered (world : World) (root : List ℕ) (opts : FindSymOpts) (text old : List ℕ) (new : Option (List ℕ)) : Type 0 where
  pub frames : List Frame
  pub asks : AsksFor IsFrame text frames
  pub written : new ≡ Some (old ++ frame_texts frames (map (answer_in world root opts) frames))

-- the texts of what was found for the input's frames are what was written, and as many files were read
-- as that takes
pub record AreSomeAnswered (root : List ℕ) (opts : FindSymOpts) (text old : List ℕ) (new : Option (List ℕ)) (opens_before opens_after : ℕ) : Type 0 where
  pub frames : List Frame
  pub readings : List FrameReading
  pub asks : AsksFor IsFrame text frames
  pub readings_are : AreFound root opts frames readings opens_before opens_after
  pub written : new ≡ Some (old ++ frame_texts frames readings)

-- all that a run over an input of frames promises
pub record RunsFrames {R W F : Type 0} (reads : input_trait.Ghosts R) (writes : output_trait.Ghosts W) (looks : files_trait.Ghosts F) (root : List ℕ) (opts : FindSymOpts) (ended : Status)
    (input_before input_after : R) (output_before output_after : W) (files_before files_after : F) : Type 0 where
  -- the run wrote the outcome's text and ended by its status, or it failed and wrote a front of that
  -- text
  pub ends : Told (reads.left input_before) (λ text. Told (in_view (looks.worlds files_before)) (λ world. Told (writes.written output_before) (λ old.
      Ends (frames_outcome world root opts text) old ended (writes.written output_after))))
  -- no status comes but 0, 3, 4 and 5: frames are never refused
  pub status : (ended ≡ statuses.Input) ⊎ IsOrFails statuses.Done ended
  -- status 0 means that the input was frames, and that the texts of their answers are what was written
  pub done : ended ≡ statuses.Done → Told (reads.left input_before) (λ text. Told (in_view (looks.worlds files_before)) (λ world. Told (writes.written output_before) (λ old.
      AreAnswered world root opts text old (writes.written output_after))))
  -- and whatever the files tell, that they are answered by what was found, in as many reads as that
  -- takes
  pub answered : ended ≡ statuses.Done → Told (reads.left input_before) (λ text. Told (writes.written output_before) (λ old.
      AreSomeAnswered root opts text old (writes.written output_after) (looks.opens files_before) (looks.opens files_after)))
  -- status 3 means that the input is bad, and a bad input is answered by it, unless the run fails
  pub input : Told (reads.left input_before) (λ text. (ended ≡ statuses.Input → IsBadInput IsFrame text) × (IsBadInput IsFrame text → IsOrFails statuses.Input ended))
  -- and that what was written names what is bad of it, whatever the files tell
  pub named : ended ≡ statuses.Input → Told (reads.left input_before) (λ text. Told (writes.written output_before) (λ old.
      IsBadNamed IsFrame text old (writes.written output_after)))
  -- an input of frames is answered, unless something fails or memory runs out
  pub complete : Told (reads.left input_before) (λ text. (frames : List Frame) → AsksFor IsFrame text frames → IsOrFails statuses.Done ended)
  -- status 0 means that a file was read for each frame whose name is good, whose key wasn't kept, and
  -- whose path is present
  pub opens : ended ≡ statuses.Done → Told (reads.left input_before) (λ text. Told (in_view (looks.worlds files_before)) (λ world.
      looks.opens files_after ≡ opens_by world root opts (frames_in text) (looks.opens files_before)))
  -- no more files are read than the input has frames, however the run ends
  pub most : Told (reads.left input_before) (λ text. (frames : List Frame) → AsksFor IsFrame text frames → looks.opens files_after ≤ looks.opens files_before + length frames)
  -- over a bad input no file is looked at
  pub unlooked : Told (reads.left input_before) (λ text. IsBadInput IsFrame text → files_after ≡ files_before)
  -- a run that doesn't fail has read the input, and no run reads on past the byte that makes it too
  -- long
  pub read : IsNoFailure ended → IsReadWhole (reads.left input_before) (reads.left input_after)
  pub bounded : MovesAtMost (greatest_input + 1) (reads.left input_before) (reads.left input_after)
  -- until the input is read, no file is looked at and nothing is written
  pub order : ((files_after ≡ files_before) × (output_after ≡ output_before)) ⊎ IsReadWhole (reads.left input_before) (reads.left input_after)
  -- where there is nothing to write, the output is left alone
  pub silent : Told (reads.left input_before) (λ text. Told (in_view (looks.worlds files_before)) (λ world.
      (frames_outcome world root opts text).text ≡ [] → output_after ≡ output_before))
  -- a fault comes exactly where a call failed, on one side at most, and of the files only before the
  -- output
  pub fails : Fails reads writes looks ended input_before input_after output_before output_after files_before files_after
  pub fault : ended ≡ statuses.Fault → (reads.faults input_after ≡ counted (reads.faults input_before))
      ⊎ ((writes.faults output_after ≡ counted (writes.faults output_before)) ⊎ (looks.faults files_after ≡ counted (looks.faults files_before)))
  pub steady : (ended ≡ statuses.Fault) ⊎ ((reads.faults input_after ≡ reads.faults input_before) × (writes.faults output_after ≡ writes.faults output_before)
      × (looks.faults files_after ≡ looks.faults files_before))
