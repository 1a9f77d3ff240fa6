-- Line records that lie apart, and the gaps between them.
use Rattle.std.specs.Prelude.{ℕ, ◌+◌, ◌<◌, ◌≤◌, nat_lt, ◌&&◌, List, [], ◌∷◌, Option, Some, None, if◌then◌else◌}
use Rattle.bz_base.specs.Span.{last_address}
use Rattle.bz_breakpad_lines.specs.Table.{SourceLine}

-- none starts before an address, each has a size, and each ends before the next one starts, or where it
-- does. The ends fit 64 bits
abbrev pub LieApart : ℕ → List SourceLine → Type 0
LieApart low [] = Unit {0}
LieApart low (l ∷ lines) = (low ≤ l.start) × ((0 < l.size) × ((l.start + l.size ≤ last_address) × LieApart (l.start + l.size) lines))

-- the gap from an address on up to the next record, behind a function's start
abbrev pub gap_between : ℕ → ℕ → ℕ → Option ℕ
gap_between start reached next = if nat_lt start reached && nat_lt reached next then Some reached else None
