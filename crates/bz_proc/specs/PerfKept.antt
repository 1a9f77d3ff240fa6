-- What is kept of a perf map beside its bytes.
use Rattle.std.specs.Prelude.{◌≡◌, ◌-◌, ◌≤◌, ℕ, List, length, drop, map, None, IsUtf8}
use Rattle.std.specs.List.{AllByRecursion}
use Rattle.bz_base.specs.Nearest.{IsTable}
use Rattle.bz_proc.specs.PerfLine.{PerfFunction}
use Rattle.bz_proc.specs.PerfLines.{line_front}
use Rattle.bz_proc.specs.PerfMap.{format_test, functions}
use Rattle.bz_proc.specs.declared.perf_map.entry.PerfEntry.{PerfEntry}
use Rattle.bz_proc.specs.declared.perf_map.line.PerfLine.{PerfLine}

-- a function as it is kept, whose name ends at this place
abbrev pub entry_to : ℕ → PerfFunction → PerfEntry
entry_to past f = record { start = f.start; size = f.size; name = past - length f.name }

-- the function that is kept so: its name stands from the place on, up to the line's end
abbrev pub function_at : List ℕ → PerfEntry → PerfFunction
function_at bytes entry = record { name = line_front (drop entry.name bytes); start = entry.start; size = entry.size }

-- a name stands at the place
pub record IsNamed (bytes : List ℕ) (entry : PerfEntry) : Type 0 where
  pub within : entry.name ≤ length bytes
  pub utf8 : IsUtf8 (line_front (drop entry.name bytes))

-- the bytes are a perf map; its functions stand in the order of start and size
pub record IsKept (bytes : List ℕ) (entries : List PerfEntry) : Type 0 where
  pub formed : format_test bytes ≡ None
  pub named : AllByRecursion (IsNamed bytes) entries
  pub functions_are : IsTable (λ f. f.start) (λ f. f.size) (functions bytes) (map (function_at bytes) entries)

-- what a line tells, as plain data
abbrev pub line_told : PerfLine → PerfFunction
line_told line = record { name = line.name.now; start = line.start; size = line.size }
