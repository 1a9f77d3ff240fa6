-- Which version of a file is in view.
use Rattle.std.specs.Prelude.{ℕ, ◌||◌, not, cond, List, [], Option, Some, None, option_and_then, unwrap_or, Result, Ok, Err}
use Rattle.std.specs.FinMap as map
use Rattle.bz_base.specs.declared.error.Error.{Error}
use Rattle.bz_base.specs.declared.error.Error.TheVariants as errors
use Rattle.bz_files.specs.declared.stamp.Stamp.{Stamp}
use Rattle.bz_files.specs.World.{World, Entry, Denied, Present, entry_at}
use Rattle.bz_cache.specs.Cache.{Cache}

-- what is in view at a path: no file, a file that may not be read, or a version by its bytes
pub data View : Type 0 where
  Absent : View
  Hidden : View
  Shown : List ℕ → View

-- the path's current stamp, if the path is fixed: held, and pinned or not looked at anew
abbrev pub fixed : Cache → List ℕ → Option Stamp
fixed cache path = option_and_then (λ state. cond (state.pinned || not cache.reload) (Some state.current) None) (map.get cache.paths path)

-- the kept bytes of the stamp
abbrev pub bytes_at : Cache → Stamp → List ℕ
bytes_at cache stamp = unwrap_or (map.get cache.kept stamp) []

-- what the world shows at a path
abbrev pub shown : Option Entry → View
shown None = Absent
shown (Some Denied) = Hidden
shown (Some (Present stamp bytes)) = Shown bytes

-- a fixed path shows the kept bytes of its current stamp, any other path what the world holds there
abbrev pub by_fixed_view : Cache → Option Entry → Option Stamp → View
by_fixed_view cache there (Some stamp) = Shown (bytes_at cache stamp)
by_fixed_view cache there None = shown there

-- the version in view at the path
abbrev pub view : Cache → World → List ℕ → View
view cache world path = by_fixed_view cache (entry_at world path) (fixed cache path)

-- what bytes in the format answer; others are refused as the test says
abbrev pub if_formed : {B : Type 0} → (List ℕ → Result B Error) → List ℕ → Option Error → Result B Error
if_formed given bytes None = given bytes
if_formed given bytes (Some refusal) = Err refusal

-- what the version in view answers, or the refusal of a file that is absent, may not be read or isn't
-- in the format
abbrev pub answer_of_view : {B : Type 0} → (List ℕ → Option Error) → (List ℕ → Result B Error) → View → Result B Error
answer_of_view test given Absent = Err errors.NotFound
answer_of_view test given Hidden = Err errors.PermissionDenied
answer_of_view test given (Shown bytes) = if_formed given bytes (test bytes)

-- bytes in the format are answered, others refused as the test says
abbrev pub by_format : List ℕ → Option Error → Result (List ℕ) Error
by_format bytes tested = if_formed Ok bytes tested

-- the bytes that a version in view gives
abbrev pub bytes_of_view : (List ℕ → Option Error) → View → Result (List ℕ) Error
bytes_of_view test shown = answer_of_view test Ok shown
