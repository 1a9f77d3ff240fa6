-- LEB128 numbers, of the DWARF standard: 7 bits a byte, the least first, and all bytes but the last
-- have their top bit set. Here a number has at most 10 bytes and 64 bits; longer forms of small numbers
-- count.
use Rattle.std.specs.Prelude.{◌≡◌, ℕ, ℤ, pos, ◌-ℤ◌, ◌+◌, ◌*◌, ◌^◌, ◌%◌, ◌<◌, ◌≤◌, ◌&&◌, ◌⊎◌, nat_lt, nat_le, List, [], ◌∷◌, ◌++◌, length, take, drop, Option, Some, None, option_map, option_and_then, if◌then◌else◌}
use Rattle.std.specs.List.{AllByRecursion}
use Rattle.bz_bytes.specs.Cursor.{with_first, with_rest}

-- another byte follows this one
abbrev pub IsMarked : ℕ → Type 0
IsMarked byte = 128 ≤ byte

-- the bytes of a number: all are marked but the last, and ten are the most
pub record IsLeb (text front : List ℕ) (last : ℕ) : Type 0 where
  pub whole : text ≡ front ++ last ∷ []
  pub marked : AllByRecursion IsMarked front
  pub unmarked : last < 128
  pub few : length front ≤ 9

-- the sum of the low 7 bits of each byte, which weigh 128 to the power of its place
abbrev pub bits_sum : ℕ → List ℕ → ℕ
bits_sum place [] = 0
bits_sum place (byte ∷ bytes) = byte % 128 * 128 ^ place + bits_sum (1 + place) bytes

-- the text is an unsigned number; a tenth byte is 0 or 1
pub record IsUleb (value : ℕ) (text : List ℕ) : Type 0 where
  pub front : List ℕ
  pub last : ℕ
  pub number : IsLeb text front last
  pub tenth : length front ≡ 9 → last ≤ 1
  pub valued : value ≡ bits_sum 0 text

-- the number that bits say in two's complement, where the last byte has the sign in its bit 6
abbrev pub extended : List ℕ → ℕ → ℤ
extended text last = if nat_lt last 64 then pos (bits_sum 0 text) else pos (bits_sum 0 text) -ℤ pos (128 ^ length text)

-- the text is a signed number; a tenth byte is 0 or 127
pub record IsSleb (value : ℤ) (text : List ℕ) : Type 0 where
  pub front : List ℕ
  pub last : ℕ
  pub number : IsLeb text front last
  pub tenth : length front ≡ 9 → (last ≡ 0) ⊎ (last ≡ 127)
  pub valued : value ≡ extended text last

-- the number that the low 7 bits of bytes make, those of the first byte being the least
abbrev pub low_bits : List ℕ → ℕ
low_bits [] = 0
low_bits (byte ∷ bytes) = byte % 128 + 128 * low_bits bytes

-- the bytes up to the first that isn't marked, and those after them
abbrev pub leb_at : List ℕ → Option (List ℕ × List ℕ)
leb_at [] = None
leb_at (byte ∷ bytes) = if nat_lt byte 128 then Some (byte ∷ [], bytes) else option_map (with_first byte) (leb_at bytes)

-- the unsigned number of so many bytes with these bits, if they are at most 10 bytes and 64 bits
abbrev pub unsigned : ℕ → ℕ → Option ℕ
unsigned count bits = if nat_le count 10 && nat_lt bits (2 ^ 64) then Some bits else None

-- the number itself, if 64 bits with a sign have it
abbrev pub positive : ℕ → Option ℤ
positive bits = if nat_lt bits (2 ^ 63) then Some (pos bits) else None

-- the number less this, if 64 bits with a sign have it
abbrev pub negative : ℕ → ℕ → Option ℤ
negative bits less = if nat_le less (bits + 2 ^ 63) then Some (pos bits -ℤ pos less) else None

-- the signed number of so many bytes with these bits: two's complement, in which the upper half is
-- negative
abbrev pub signed : ℕ → ℕ → Option ℤ
signed count bits =
    if nat_le count 10
    then (if nat_lt (2 * bits) (128 ^ count) then positive bits else negative bits (128 ^ count))
    else None

-- an unsigned number, and the bytes after it
unfoldable pub uleb_at : List ℕ → Option (ℕ × List ℕ)
uleb_at bytes = option_and_then (λ cut. with_rest (unsigned (length cut.0) (low_bits cut.0)) cut.1) (leb_at bytes)

-- a signed number, and the bytes after it
unfoldable pub sleb_at : List ℕ → Option (ℤ × List ℕ)
sleb_at bytes = option_and_then (λ cut. with_rest (signed (length cut.0) (low_bits cut.0)) cut.1) (leb_at bytes)

-- no number lies at the front of the bytes
pub record HasNoNumber (bytes : List ℕ) : Type 0 where
  pub unsigned : uleb_at bytes ≡ None
  pub signed : sleb_at bytes ≡ None

-- a number of so many bytes lies at the front: its bits are the lower ones and those of the last byte,
-- which weigh so much
pub record IsInParts (bytes : List ℕ) (low weight last len : ℕ) : Type 0 where
  pub few : len ≤ 10
  pub within : len ≤ length bytes
  pub number : leb_at bytes ≡ Some (take len bytes, drop len bytes)
  pub bits : low_bits (take len bytes) ≡ low + weight * last
  pub weighs : weight * 128 ≡ 128 ^ len
  pub small : low < weight
  pub unmarked : last < 128
