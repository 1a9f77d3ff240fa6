-- What an input of frames is answered.
use Rattle.std.specs.Prelude.{◌≡◌, ◌≤◌, ◌+◌, ℕ, List, [], length, map, Result, Ok, Err, IsErr, IfOk, IfErr}
use Rattle.bz_base.specs.Refusals.{IsFailure}
use Rattle.bz_base.specs.declared.error.Error.{Error}
use Rattle.bz_base.specs.declared.types.FindSymOpts.{FindSymOpts}
use Rattle.bz_files.specs.Looked.{Faulted, Looked}
use Rattle.bz_files.specs.World.{Told, World, in_view}
use Rattle.bz_files.specs.declared.files.Files.{Ghosts}
use Rattle.bz_store.specs.Calls.{found_each, state}
use Rattle.bz_store.specs.Frames.{Frame, FrameReading}
use Rattle.bz_store.specs.Plain.{answer_in, opens_after_all}
use Rattle.bz_store.specs.Shelf.{new_shelf}
use Rattle.bz_store.specs.Visits.{Found, visited}
use Rattle.bz_symq.specs.Outcome.{Outcome, bad_line, done_with}
use Rattle.bz_symq.specs.Reply.{Replies, outcome_of, text_of}
use Rattle.bz_symq.specs.Run.{IsNoFailure}
use Rattle.bz_symq.specs.declared.reply.Reply.{Reply}
use Rattle.bz_symq.specs.declared.status.Status.{Status}
use Rattle.bz_symq.specs.declared.status.Status.TheVariants as statuses
use Rattle.bz_serve.specs.FrameText.{frame_texts}

-- how many symbol files are kept at most
abbrev pub capacity : ℕ
capacity = 64

-- frames were answered
abbrev pub done : List Frame → List FrameReading → Outcome
done frames readings = done_with (frame_texts frames readings)

-- each frame is answered as the world alone answers it, and a bad line is named
abbrev pub by_frames : World → List ℕ → FindSymOpts → Result (List Frame) ℕ → Outcome
by_frames world root opts (Ok frames) = done frames (map (answer_in world root opts) frames)
by_frames world root opts (Err n) = bad_line n

-- the count of opens after that: one more for each frame of a good name whose key isn't kept then and
-- whose path is present
abbrev pub opens_by : World → List ℕ → FindSymOpts → Result (List Frame) ℕ → ℕ → ℕ
opens_by world root opts (Ok frames) n = opens_after_all capacity (found_each world root frames) (map (answer_in world root opts) frames) [] n
opens_by world root opts (Err bad) n = n

-- how many frames an input has; a bad one has none
abbrev pub frame_count : Result (List Frame) ℕ → ℕ
frame_count (Ok frames) = length frames
frame_count (Err bad) = 0

-- the status of a reply: frames are answered and never refused, and a bad line is named
abbrev pub IsFrameStatus : Result (List Frame) ℕ → Status → Type 0
IsFrameStatus (Ok frames) status = status ≡ statuses.Done
IsFrameStatus (Err n) status = status ≡ statuses.Input

-- the readings are those of a new store at the root that goes through the frames in order
pub record AreFound (root : List ℕ) (opts : FindSymOpts) (frames : List Frame) (readings : List FrameReading) (opens_before opens_after : ℕ) : Type 0 where
  pub visits : List (Frame × Found)
  pub of_frames : map (λ v. v.0) visits ≡ frames
  -- each is by what is kept of its file, or else by what was found there, and files read for that are
  -- counted
  pub readings_are : readings ≡ (visited capacity opts visits (state (new_shelf root capacity) [] opens_before)).answers
  pub opens_are : opens_after ≡ (visited capacity opts visits (state (new_shelf root capacity) [] opens_before)).opens

-- a reply to frames has the texts of such readings, and a bad line is named
abbrev pub IsFramesReply : List ℕ → FindSymOpts → Result (List Frame) ℕ → ℕ → ℕ → Reply → Type 0
IsFramesReply root opts (Ok frames) opens_before opens_after reply =
    (readings : List FrameReading) × AreFound root opts frames readings opens_before opens_after × (text_of reply.said ≡ frame_texts frames readings)
IsFramesReply root opts (Err n) opens_before opens_after reply = outcome_of reply ≡ bad_line n

-- an input of these frames, or with this bad line, was replied to
pub record RepliesFrames {X : Type 0} (files : Ghosts X) (root : List ℕ) (opts : FindSymOpts) (asked : Result (List Frame) ℕ) (result : Result Reply Error) (old new : X) : Type 0 where
  -- by the world in view, where that is told
  pub reply : Told (in_view (files.worlds old)) (λ world. Replies (by_frames world root opts asked) result)
  pub opens : Told (in_view (files.worlds old)) (λ world. IfOk result (λ reply. files.opens new ≡ opens_by world root opts asked (files.opens old)))
  -- no more files are read than there are frames, whatever is answered
  pub most : files.opens new ≤ files.opens old + frame_count asked
  -- frames or bad line alone decide on the status, and only a failure comes in place of a reply
  pub status : IfOk result (λ reply. IsFrameStatus asked reply.status)
  pub no_failure : IfOk result (λ reply. IsNoFailure reply.status)
  pub failure : IfErr result IsFailure
  -- for a bad line no file is looked at
  pub unlooked : IsErr asked → new ≡ old
  -- of the files only counts have moved; a fault was counted
  pub looked : Looked files old new (Faulted result)
