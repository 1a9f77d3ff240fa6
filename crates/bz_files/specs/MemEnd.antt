-- The ends of a text in memory.
use Rattle.std.specs.Prelude.{ℕ, ◌==◌, Bool, false, if◌then◌else◌, List, Option, Some, None}
use Rattle.bz_files.specs.Count.{counted}

-- the bytes that are left or were written, how many calls there were, the number of the call that
-- fails, and how many failed
pub record MemEnd : Type 0 where
  pub bytes : List ℕ
  pub calls : ℕ
  pub failing : Option ℕ
  pub faults : ℕ

-- an end with these bytes, of which nothing was asked yet
abbrev pub new_end : List ℕ → MemEnd
new_end bytes = record { bytes = bytes; calls = 0; failing = None; faults = 0 }

-- the call with this number is the one that fails
abbrev pub is_failing : Option ℕ → ℕ → Bool
is_failing None number = false
is_failing (Some failing) number = failing == number

-- the next call is the one that fails
abbrev pub fails_next : MemEnd → Bool
fails_next end = is_failing end.failing (counted end.calls)

-- the end after one more call, which is counted, as is the fault if it is the one that fails
abbrev pub after_call : MemEnd → MemEnd
after_call end = record end { calls = counted end.calls; faults = if fails_next end then counted end.faults else end.faults }
