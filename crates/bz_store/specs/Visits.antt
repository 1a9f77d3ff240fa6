-- What is answered for frames one after the other, and what is kept then.
use Rattle.std.specs.Prelude.{ℕ, Bool, true, false, not, ◌&&◌, if◌then◌else◌, is_some, List, [], ◌∷◌, ◌++◌, Option, Some, None}
use Rattle.std.specs.Map.{lookup}
use Rattle.std.specs.Option.{option_map_or}
use Rattle.bz_base.specs.Answer.{in_batch}
use Rattle.bz_base.specs.declared.types.FindSymOpts.{FindSymOpts}
use Rattle.bz_breakpad.specs.Plain.{plain}
use Rattle.bz_breakpad.specs.Reader.{table_in}
use Rattle.bz_breakpad.specs.Table.{Table}
use Rattle.bz_cache.specs.Look.{opens_after}
use Rattle.bz_files.specs.World as worlds
use Rattle.bz_files.specs.World.{World, Entry, entry_at}
use Rattle.bz_store.specs.Frames as frames
use Rattle.bz_store.specs.Frames.{Key, Frame, FrameReading, Known, BadName, NoFile, BadFile, is_good, key_eq, symbol_path}
use Rattle.bz_store.specs.Shelf.{ShelfFiles, keep}

-- what may be found at the path of a file: nothing, a file that may not be read, or bytes
pub data Found : Type 0 where
  Absent : Found
  Denied : Found
  Holds : List ℕ → Found

abbrev pub found_by : Option Entry → Found
found_by None = Absent
found_by (Some worlds.Denied) = Denied
found_by (Some (worlds.Present stamp bytes)) = Holds bytes

-- what a world has at the path of a file
abbrev pub found_at : World → List ℕ → Key → Found
found_at world root key = found_by (entry_at world (symbol_path root key))

-- the answer of bytes at an offset: that of their table, as an entry of a batch
abbrev pub by_table : FindSymOpts → ℕ → Option Table → FrameReading
by_table opts offset None = BadFile
by_table opts offset (Some table) = Known (in_batch (plain table opts offset))

-- the answer at an offset of a file, by what is found of it
abbrev pub by_found : FindSymOpts → ℕ → Found → FrameReading
by_found opts offset Absent = NoFile
by_found opts offset Denied = frames.Denied
by_found opts offset (Holds bytes) = by_table opts offset (table_in bytes)

-- what answers for a file: nothing under a bad name, the kept bytes of a file that is kept, and else
-- what is found
abbrev pub source : ShelfFiles → Key → Found → Option Found
source kept key found = if is_good key then Some (option_map_or Holds (lookup (key_eq key) kept) found) else None

abbrev pub by_source : FindSymOpts → ℕ → Option Found → FrameReading
by_source opts offset None = BadName
by_source opts offset (Some found) = by_found opts offset found

-- the new ones are kept where bytes have a table
abbrev pub stays : Option Table → ShelfFiles → ShelfFiles → ShelfFiles
stays None new old = old
stays (Some table) new old = new

-- a file that answers is kept
abbrev pub kept_after : ℕ → Key → Option Found → ShelfFiles → ShelfFiles
kept_after cap key (Some (Holds bytes)) kept = stays (table_in bytes) (keep cap key bytes kept) kept
kept_after cap key _ kept = kept

abbrev pub is_read : Found → Bool
is_read (Holds bytes) = true
is_read _ = false

-- a file is read: its name is good, it isn't kept, and there are bytes
abbrev pub is_opened : ShelfFiles → Key → Found → Bool
is_opened kept key found = is_good key && (not (is_some (lookup (key_eq key) kept)) && is_read found)

-- a store's state: what it keeps, what was answered so far, and how many files were read
pub record State : Type 0 where
  pub kept : ShelfFiles
  pub answers : List FrameReading
  pub opens : ℕ

-- after a frame, with what is found for it
abbrev pub visit : ℕ → FindSymOpts → Frame × Found → State → State
visit cap opts v state = record {
  kept = kept_after cap v.0.file (source state.kept v.0.file v.1) state.kept;
  answers = state.answers ++ by_source opts v.0.offset (source state.kept v.0.file v.1) ∷ [];
  opens = opens_after (is_opened state.kept v.0.file v.1) state.opens;
}

-- after frames one after the other, each with what is found for it
abbrev pub visited : ℕ → FindSymOpts → List (Frame × Found) → State → State
visited cap opts [] state = state
visited cap opts (v ∷ vs) state = visited cap opts vs (visit cap opts v state)
