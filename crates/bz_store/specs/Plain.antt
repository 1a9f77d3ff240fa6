-- What a store answers and keeps, said without its states.
use Rattle.std.specs.Prelude.{◌≡◌, ℕ, Bool, not, ◌&&◌, if◌then◌else◌, List, [], ◌∷◌, map, take}
use Rattle.std.specs.List.{AllByRecursion, list_any}
use Rattle.bz_base.specs.declared.types.FindSymOpts.{FindSymOpts}
use Rattle.bz_cache.specs.Look.{opens_after}
use Rattle.bz_files.specs.World.{World}
use Rattle.bz_store.specs.Frames.{Key, Frame, FrameReading, Known, BadName, is_good, key_eq}
use Rattle.bz_store.specs.Shelf.{ShelfFiles}
use Rattle.bz_store.specs.Visits.{Found, Holds, by_found, found_at, is_read}

-- the answer for a frame by a world alone
abbrev pub answer_in : World → List ℕ → FindSymOpts → Frame → FrameReading
answer_in world root opts frame = if is_good frame.file then by_found opts frame.offset (found_at world root frame.file) else BadName

-- a file that is kept has the bytes that the world has at its path
abbrev pub IsOf : World → List ℕ → Key × List ℕ → Type 0
IsOf world root entry = found_at world root entry.0 ≡ Holds entry.1

-- so has each of them
abbrev pub AreOfWorld : World → List ℕ → ShelfFiles → Type 0
AreOfWorld world root kept = AllByRecursion (IsOf world root) kept

abbrev pub keys : ShelfFiles → List Key
keys kept = map (λ entry. entry.0) kept

-- the keys without one of them
abbrev pub without : Key → List Key → List Key
without key [] = []
without key (k ∷ ks) = if key_eq key k then ks else k ∷ without key ks

-- the key goes in front, out of its former place; the last goes where there are too many
abbrev pub keep_key : ℕ → Key → List Key → List Key
keep_key cap key keys = take cap (key ∷ without key keys)

-- the key of a frame that its file answered is kept
abbrev pub keep_answered : ℕ → Key → FrameReading → List Key → List Key
keep_answered cap key (Known answer) keys = keep_key cap key keys
keep_answered cap key _ keys = keys

-- the keys that are kept after frames with these answers, in their order
abbrev pub keys_after : ℕ → List (Frame × FrameReading) → List Key → List Key
keys_after cap [] keys = keys
keys_after cap (a ∷ later) keys = keys_after cap later (keep_answered cap a.0.file a.1 keys)

-- each frame with its answer
abbrev pub answered : List Frame → List FrameReading → List (Frame × FrameReading)
answered [] readings = []
answered (f ∷ fs) [] = []
answered (f ∷ fs) (r ∷ rs) = (f, r) ∷ answered fs rs

-- a frame's file is read: its name is good, its key isn't among those kept, and its path is present
abbrev pub is_opened_by : List Key → Frame × Found → Bool
is_opened_by keys v = is_good v.0.file && (not (list_any (key_eq v.0.file) keys) && is_read v.1)

-- the count of opens after frames with these answers: one more for each whose file is read
abbrev pub opens_after_all : ℕ → List (Frame × Found) → List FrameReading → List Key → ℕ → ℕ
opens_after_all cap [] readings keys n = n
opens_after_all cap (v ∷ vs) [] keys n = n
opens_after_all cap (v ∷ vs) (r ∷ rs) keys n = opens_after_all cap vs rs (keep_answered cap v.0.file r keys) (opens_after (is_opened_by keys v) n)
