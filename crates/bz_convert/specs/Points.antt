-- The addresses of a function at which another line record may answer than at the one before.
use Rattle.std.specs.Prelude.{◌≡◌, ℕ, ◌+◌, ◌<◌, ◌≤◌, nat_le, nat_lt, ◌&&◌, List, [], ◌∷◌, Option, Some, None, is_none, is_some, slice_get, if◌then◌else◌}
use Rattle.bz_breakpad_lines.specs.Table.{Function, SourceLine}
use Rattle.bz_breakpad_lines.specs.Told.{line_seen}
use Rattle.bz_gsym_layout.specs.Members.{In}
use Rattle.bz_convert.specs.declared.rows.LineRow.{LineRow}
use Rattle.bz_convert.specs.declared.rows.Point.{Point}

-- a row, as the file says it
abbrev pub row_seen : LineRow → ℕ × SourceLine
row_seen row = (row.addr, line_seen row.line)

-- the gap at an address, by the record that answers before it and by the one that answers there
abbrev pub gap_of : {L : Type 0} → ℕ → Option L → Option L → Option ℕ
gap_of at before now = if is_some before && is_none now then Some at else None

-- an address as a point, if it lies from a start on and before an end
abbrev pub point_within : ℕ → ℕ → ℕ → List Point
point_within start end addr = if nat_le start addr && nat_lt addr end then record { addr = addr } ∷ [] else []

-- an address of the function
abbrev pub IsOf : Function → ℕ → Type 0
IsOf f addr = (f.start ≤ addr) × (addr < f.start + f.size)

-- addresses of the function in their order: with its start, and with those where a record starts, has
-- its second address, or has ended
pub record ArePoints (f : Function) (points : List ℕ) : Type 0 where
  pub ascend : (i j p q : ℕ) → i ≤ j → slice_get points i ≡ Some p → slice_get points j ≡ Some q → p ≤ q
  pub within : (p : ℕ) → In points p → IsOf f p
  pub first : In points f.start
  pub starts : (l : SourceLine) → In f.lines l → IsOf f l.start → In points l.start
  pub seconds : (l : SourceLine) → In f.lines l → IsOf f (l.start + 1) → In points (l.start + 1)
  pub ends : (l : SourceLine) → In f.lines l → IsOf f (l.start + l.size) → In points (l.start + l.size)
