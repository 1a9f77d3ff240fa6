-- The parts of an ELF file: tables, whose records lie side by side, and bytes from a place on.
use Rattle.std.specs.Prelude.{ℕ, ◌+◌, ◌*◌, Bool, nat_le, List, length, take, drop, map}
use Rattle.std.specs.List.{range_with_len}

-- the places of so many records of one size, side by side from a place on
abbrev pub places : ℕ → ℕ → ℕ → List ℕ
places from size count = map (λ i. from + i * size) (range_with_len 0 count)

-- so many bytes from a place on lie in the bytes
abbrev pub lies : List ℕ → ℕ → ℕ → Bool
lies bytes place size = nat_le (place + size) (length bytes)

-- those bytes
abbrev pub bytes_at : List ℕ → ℕ → ℕ → List ℕ
bytes_at bytes place size = take size (drop place bytes)
