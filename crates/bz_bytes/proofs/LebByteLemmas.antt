-- LEB128 numbers of one byte.
use Rattle.std.proofs.Common.{◌≡◌, ℕ, ℤ, pos, ◌+◌, ◌*◌, ◌%◌, ◌^◌, ◌<◌, ◌≤◌, ◌-ℤ◌, to_z, of_z, List, [], ◌∷◌, length, drop, Option, Some, refl, sym, ap, ◌∙◌, arith}
use Rattle.std.specs.List.{slice_index}
use Rattle.std.specs.Int.{w64}
use Rattle.std.specs.Option.{option_and_then}
use Rattle.std.proofs.lemmas.Int.{ints}
use Rattle.std.proofs.lemmas.Bool.{lt-ltb, le-ltb, le-leb}
use Rattle.bz_bytes.specs.Cursor.{with_rest}
use Rattle.bz_bytes.specs.Leb128.{low_bits, leb_at, signed, uleb_at, sleb_at}

-- its bits are the byte
byte_bits : (b : ℕ) → b < 128 → b % 128 + 128 * 0 ≡ b
byte_bits b low = omega arith

pub unsigned_byte : (bytes : List ℕ) → 0 < length bytes → slice_index bytes 0 < 128 → Some (slice_index bytes 0, drop 1 bytes) ≡ uleb_at bytes
unfolding uleb_at
unsigned_byte [] some low = absurd (omega arith)
unsigned_byte (b ∷ bytes) some low =
    rw (lt-ltb b 128 low, byte_bits b low, lt-ltb b (2 ^ 64) (omega arith)) refl

pub positive_byte : (bytes : List ℕ) → 0 < length bytes → slice_index bytes 0 < 64 → Some (pos (slice_index bytes 0), drop 1 bytes) ≡ sleb_at bytes
unfolding sleb_at
positive_byte [] some low = absurd (omega arith)
positive_byte (b ∷ bytes) some low =
    rw (lt-ltb b 128 (omega arith), byte_bits b (omega arith), lt-ltb (2 * b) 128 (omega arith), lt-ltb b (2 ^ 63) (omega arith)) refl

-- what is read of a byte is what its bits are
read_byte : {A : Type 0} (value : ℕ → ℕ → Option A) (b : ℕ) (bytes : List ℕ) → b < 128 →
    option_and_then (λ cut. with_rest (value (length cut.0) (low_bits cut.0)) cut.1) (leb_at (b ∷ bytes)) ≡ with_rest (value 1 b) bytes
read_byte value b bytes low = rw (lt-ltb b 128 low, byte_bits b low) refl

negative_bits : (b : ℕ) → 64 ≤ b → signed 1 b ≡ Some (pos b -ℤ pos 128)
negative_bits b set = rw (le-ltb (2 * b) 128 (omega arith), le-leb 128 (b + 2 ^ 63) (omega arith)) refl

pub negative_byte : (bytes : List ℕ) → 0 < length bytes → slice_index bytes 0 < 128 → 64 ≤ slice_index bytes 0 →
    Some (pos (slice_index bytes 0) -ℤ pos 128, drop 1 bytes) ≡ sleb_at bytes
unfolding sleb_at
negative_byte [] some low set = absurd (omega arith)
negative_byte (b ∷ bytes) some low set = sym (read_byte signed b bytes low ∙ ap (λ v. with_rest v bytes) (negative_bits b set))

-- a byte as a signed number, and that less 128
pub same_signed : (z : ℤ) (b : ℕ) → z ≡ pos b → b < 128 → to_z w64 (of_z w64 z) ≡ pos b
same_signed z b is low = omega (arith, ints)

pub less_signed : (z : ℤ) (b : ℕ) → z ≡ pos b → b < 128 → to_z w64 (of_z w64 (to_z w64 (of_z w64 z) -ℤ pos 128)) ≡ pos b -ℤ pos 128
less_signed z b is low = omega (arith, ints)
