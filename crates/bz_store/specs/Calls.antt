-- What the calls of a store answer, and what they leave of it and of the files.
use Rattle.std.specs.Prelude.{◌≡◌, ◌<◌, ◌≤◌, ◌+◌, ℕ, List, [], Option, Some, None, length, map, take, Result, IfOk, IfErr, OnOk, OnErr}
use Rattle.bz_base.specs.Refusals.{IsFailure}
use Rattle.bz_base.specs.declared.error.Error.{Error}
use Rattle.bz_base.specs.declared.types.FindSymOpts.{FindSymOpts}
use Rattle.bz_cache.specs.Look.{opens_after}
use Rattle.bz_files.specs.Looked.{Faulted, Looked, ReadsOne}
use Rattle.bz_files.specs.World.{Told, World, in_view}
use Rattle.bz_files.specs.declared.files.Files.{Ghosts}
use Rattle.bz_store.specs.Frames.{Key, Frame, FrameReading, reading_of}
use Rattle.bz_store.specs.Plain.{AreOfWorld, answer_in, answered, keys, keys_after, opens_after_all}
use Rattle.bz_store.specs.Shelf.{ShelfFiles, Shelf, keep}
use Rattle.bz_store.specs.Visits.{Found, Holds, State, by_source, found_at, is_opened, kept_after, source, visited}
use Rattle.bz_store.specs.declared.frame.FrameAnswer.{FrameAnswer}

-- a store with other files
abbrev pub with_files : Shelf → ShelfFiles → Shelf
with_files shelf files = record shelf { files = files }

-- a store's state, with what was answered and how many files were read
abbrev pub state : Shelf → List FrameReading → ℕ → State
state shelf answers opens = record { kept = shelf.files; answers = answers; opens = opens }

-- each frame with what a world has for it
abbrev pub found_each : World → List ℕ → List Frame → List (Frame × Found)
found_each world root frames = map (λ f. (f, found_at world root f.file)) frames

-- nothing was put in front, and this is the answer at every offset; or else bytes were, which answer
abbrev pub Sought : ℕ → Key → Option Found → Option FrameAnswer → ShelfFiles → ShelfFiles → Type 0
Sought cap key from (Some answer) before after = (after ≡ before) × (kept_after cap key from before ≡ before) × ((opts : FindSymOpts) (offset : ℕ) → by_source opts offset from ≡ reading_of answer)
Sought cap key from None before after = (bytes : List ℕ) × (0 < cap) × (from ≡ Some (Holds bytes)) × (after ≡ keep cap key bytes before)

-- the file of a key was put in front, or there is none to put there, by what was found at its path.
-- That is what the world in view has, where it is told. A refusal leaves the store. One file at most is
-- read
pub record Seeks {X : Type 0} (files : Ghosts X) (key : Key) (result : Result (Option FrameAnswer) Error) (before after : Shelf) (old new : X) : Type 0 where
  pub found : Found
  pub told : Told (in_view (files.worlds old)) (λ world. found ≡ found_at world before.root key)
  pub sought : IfOk result (λ missing. Sought before.cap key (source before.files key found) missing before.files after.files)
  pub opens : OnOk result (files.opens new ≡ opens_after (is_opened before.files key found) (files.opens old))
  pub most : ReadsOne files old new
  pub place : after ≡ with_files before after.files
  pub err : OnErr result (after.files ≡ before.files)
  pub looked : Looked files old new (Faulted result)
  pub failure : IfErr result IsFailure

-- the first frames were answered behind earlier answers, each by what was found for it. That is what
-- the world in view has, where it is told. After a refusal the store keeps what it keeps after some of
-- the frames. No more files are read than there are frames
pub record Visits {X A : Type 0} (files : Ghosts X) (opts : FindSymOpts) (frames : List Frame) (result : Result A Error) (earlier answers : List FrameReading) (before after : Shelf) (old new : X) : Type 0 where
  pub visits : List (Frame × Found)
  pub told : Told (in_view (files.worlds old)) (λ world. visits ≡ found_each world before.root (map (λ v. v.0) visits))
  pub count : ℕ
  pub first : map (λ v. v.0) visits ≡ take count frames
  pub ok : OnOk result (state after answers (files.opens new) ≡ visited before.cap opts visits (state before earlier (files.opens old)))
  pub more : OnOk result (length answers ≡ length earlier + count)
  pub err : OnErr result (after.files ≡ (visited before.cap opts visits (state before earlier (files.opens old))).kept)
  pub most : files.opens new ≤ files.opens old + length frames
  pub place : after ≡ with_files before after.files
  pub looked : Looked files old new (Faulted result)
  pub failure : IfErr result IsFailure

-- told or not, each frame has the answer of the kept bytes of its file, else of what was found. That is
-- what the world in view has, where it is told. A refusal leaves what is kept after some of the frames,
-- none skipped
pub record OneByOne {X A : Type 0} (files : Ghosts X) (readings : A → List FrameReading) (opts : FindSymOpts) (frames : List Frame) (result : Result A Error) (before after : Shelf) (old new : X) : Type 0 where
  pub visits : List (Frame × Found)
  pub told : Told (in_view (files.worlds old)) (λ world. visits ≡ found_each world before.root (map (λ v. v.0) visits))
  pub ok : IfOk result (λ a. (map (λ v. v.0) visits ≡ frames) × (state after (readings a) (files.opens new) ≡ visited before.cap opts visits (state before [] (files.opens old))))
  pub err : OnErr result ((count : ℕ) × (map (λ v. v.0) visits ≡ take count frames) × (after.files ≡ (visited before.cap opts visits (state before [] (files.opens old))).kept))

-- the answers to frames
pub record AnswersFrames {X A : Type 0} (files : Ghosts X) (readings : A → List FrameReading) (opts : FindSymOpts) (frames : List Frame) (result : Result A Error) (before after : Shelf) (old new : X) : Type 0 where
  -- where each kept file has the bytes that the world in view has at its path, frames are answered as
  -- without a cache
  pub alone : Told (in_view (files.worlds old)) (λ world. AreOfWorld world before.root before.files → IfOk result (λ a. readings a ≡ map (answer_in world before.root opts) frames))
  -- and kept files have these bytes afterwards, whatever is answered
  pub agrees : Told (in_view (files.worlds old)) (λ world. AreOfWorld world before.root before.files → AreOfWorld world before.root after.files)
  -- the keys of frames that their files answered are kept, in their order
  pub kept : IfOk result (λ a. keys after.files ≡ keys_after before.cap (answered frames (readings a)) (keys before.files))
  -- after a refusal, those of some of the frames, in their order, none skipped
  pub err : Told (in_view (files.worlds old)) (λ world. AreOfWorld world before.root before.files →
      OnErr result ((count : ℕ) × (keys after.files ≡ keys_after before.cap (answered (take count frames) (map (answer_in world before.root opts) (take count frames))) (keys before.files))))
  -- a file is read for each frame whose name is good, whose key isn't kept at that point, and whose
  -- path is present
  pub opens : Told (in_view (files.worlds old)) (λ world. IfOk result (λ a. files.opens new ≡ opens_after_all before.cap (found_each world before.root frames) (readings a) (keys before.files) (files.opens old)))
  -- no more files are read than there are frames, whatever is answered
  pub most : files.opens new ≤ files.opens old + length frames
  -- whatever the files tell, each frame is answered by the kept bytes of its file, or else by what was
  -- found
  pub each : OneByOne files readings opts frames result before after old new
  -- root and capacity stay
  pub place : after ≡ with_files before after.files
  -- of the files only counts have moved; a fault was counted
  pub looked : Looked files old new (Faulted result)
  -- nothing is refused but by a fault, or for want of memory
  pub failure : IfErr result IsFailure
