-- LEB128 numbers, of the DWARF standard, of one or two bytes.
use Rattle.std.specs.Prelude.{◌≡◌, ℕ, ◌+◌, ◌^◌, ◌<◌, ◌≤◌, List, length, take, drop, Some}
use Rattle.bz_base.specs.Leb128.{leb_at, low_bits}

-- a number with these bits lies in front of the bytes, and so many of its bytes are marked
pub record IsShort (bytes : List ℕ) (bits marked : ℕ) : Type 0 where
  pub few : marked ≤ 1
  pub within : marked < length bytes
  pub number : leb_at bytes ≡ Some (take (1 + marked) bytes, drop (1 + marked) bytes)
  pub bits_are : low_bits (take (1 + marked) bytes) ≡ bits
  pub small : bits < 128 ^ (1 + marked)
