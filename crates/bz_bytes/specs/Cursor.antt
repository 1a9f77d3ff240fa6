-- Bytes that are read from their front, piece by piece, as little-endian files have them. The pieces
-- are numbers of a fixed width with the least byte first, slices, and texts of C.
use Rattle.std.specs.Prelude.{◌≡◌, ℕ, ◌+◌, ◌-◌, ◌*◌, ◌^◌, ◌%◌, ◌≤◌, ◌==◌, nat_le, List, [], ◌∷◌, ◌++◌, length, take, drop, Option, Some, None, option_map, if◌then◌else◌}
use Rattle.bz_bytes.specs.Byte.{zero_byte, HasNo}

-- all the bytes, and those that are left to be read
pub record Reading : Type 0 where
  pub all : List ℕ
  pub left : List ℕ

-- how many bytes were read
abbrev pub place_of : Reading → ℕ
place_of r = length r.all - length r.left

-- what is left is what lies from the place on
abbrev pub IsPlaced : Reading → Type 0
IsPlaced r = r.left ≡ drop (place_of r) r.all

-- what was read, with the bytes after it
abbrev pub with_rest : {A : Type 0} → Option A → List ℕ → Option (A × List ℕ)
with_rest None rest = None
with_rest (Some x) rest = Some (x, rest)

-- a byte, and those after it
unfoldable pub byte_at : List ℕ → Option (ℕ × List ℕ)
byte_at [] = None
byte_at (byte ∷ bytes) = Some (byte, bytes)

-- so many bytes, and those after them
unfoldable pub slice_at : ℕ → List ℕ → Option (List ℕ × List ℕ)
slice_at count bytes = if nat_le count (length bytes) then Some (take count bytes, drop count bytes) else None

-- the number that bytes make, the first being the least
abbrev pub little : List ℕ → ℕ
little [] = 0
little (byte ∷ bytes) = byte + 256 * little bytes

-- the number of so many bytes, and the bytes after it
unfoldable pub word_at : ℕ → List ℕ → Option (ℕ × List ℕ)
word_at size bytes = option_map (λ cut. (little cut.0, cut.1)) (slice_at size bytes)

-- a byte in front of a text
abbrev pub with_first : ℕ → List ℕ × List ℕ → List ℕ × List ℕ
with_first byte cut = (byte ∷ cut.0, cut.1)

-- the bytes before the first zero byte, and those after it
unfoldable pub cstr_at : List ℕ → Option (List ℕ × List ℕ)
cstr_at [] = None
cstr_at (byte ∷ bytes) = if byte == zero_byte then Some ([], bytes) else option_map (with_first byte) (cstr_at bytes)

-- how many bytes lie before the first place divisible by 4 that isn't before this one
abbrev pub padding : ℕ → ℕ
padding place = (4 - place % 4) % 4

-- nothing, and the bytes after so many
unfoldable pub skip_at : ℕ → List ℕ → Option (Unit {0} × List ℕ)
skip_at count bytes = option_map (λ cut. (tt, cut.1)) (slice_at count bytes)

-- What the pieces are, by their bytes.

-- the bytes begin with a text of which this holds, and the rest is what follows it
pub record IsInFront (P : List ℕ → Type 0) (bytes rest : List ℕ) : Type 0 where
  pub text : List ℕ
  pub whole : bytes ≡ text ++ rest
  pub is : P text

-- the sum of the bytes, each of which weighs 256 to the power of its place
abbrev pub bytes_sum : ℕ → List ℕ → ℕ
bytes_sum place [] = 0
bytes_sum place (byte ∷ bytes) = byte * 256 ^ place + bytes_sum (1 + place) bytes

-- so many bytes that are the slice
pub record IsSlice (count : ℕ) (slice text : List ℕ) : Type 0 where
  pub many : length text ≡ count
  pub same : slice ≡ text

-- so many bytes that make the number, the first being the least
pub record IsWord (size value : ℕ) (text : List ℕ) : Type 0 where
  pub many : length text ≡ size
  pub valued : value ≡ bytes_sum 0 text

-- a text without a zero byte, and a zero byte that ends it
pub record IsCstr (value text : List ℕ) : Type 0 where
  pub ends : text ≡ value ++ zero_byte ∷ []
  pub no_zero : HasNo zero_byte value

-- the first place divisible by 4 that isn't before the other
pub record IsNextAligned (place aligned : ℕ) : Type 0 where
  pub after : place ≤ aligned
  pub divided : aligned % 4 ≡ 0
  pub least : (other : ℕ) → place ≤ other → other % 4 ≡ 0 → aligned ≤ other
