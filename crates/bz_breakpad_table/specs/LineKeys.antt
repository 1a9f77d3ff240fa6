-- The keys by which line records are put in order: a key has a record's start and size,
-- and where it begins.
use Rattle.std.specs.Prelude.{ℕ, List, map}
use Rattle.bz_breakpad_lines.specs.LineStarts.{line_size, line_start}
use Rattle.bz_breakpad_table.specs.declared.types.LineKey.{LineKey}

-- the key of the line record that begins at a place in the bytes
abbrev pub line_key : List ℕ → ℕ → LineKey
line_key bytes place = record { start = line_start bytes place; size = line_size bytes place; place = place }

-- where the line records of the keys begin
abbrev pub places_of : List LineKey → List ℕ
places_of keys = map (λ (k : LineKey). k.place) keys
