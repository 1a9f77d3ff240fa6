-- Numbers at places of bytes. All are little-endian: the least byte comes first.
use Rattle.std.specs.Prelude.{ℕ, ◌+◌, ◌*◌, List, take, drop, map}
use Rattle.std.specs.List.{range_with_len}
use Rattle.bz_bytes.specs.Cursor.{little}

-- the number of so many bytes at a place
unfoldable pub number_at : ℕ → List ℕ → ℕ → ℕ
number_at width bytes place = little (take width (drop place bytes))

-- so many numbers of this width side by side, the first of them at the place
abbrev pub numbers_at : ℕ → ℕ → List ℕ → ℕ → List ℕ
numbers_at width count bytes place = map (λ i. number_at width bytes (place + i * width)) (range_with_len 0 count)
