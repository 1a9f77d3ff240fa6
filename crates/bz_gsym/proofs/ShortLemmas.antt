-- LEB128 numbers of one or two bytes.
use Rattle.std.proofs.Common.{◌≡◌, ℕ, zero, suc, ℤ, pos, ◌*ℤ◌, ◌+◌, ◌*◌, ◌/◌, ◌%◌, ◌^◌, ◌<◌, ◌≤◌, ◌-ℤ◌, to_z, of_z, List, [], ◌∷◌, length, drop, Option, Some, min, refl, ap, ◌∙◌, arith, inl, inr}
use Rattle.std.specs.List.{slice_index}
use Rattle.std.specs.Int.{w64}
use Rattle.std.specs.Option.{option_and_then}
use Rattle.std.proofs.lemmas.Bool.{cases_eq, lt-ltb, le-ltb, le-leb}
use Rattle.std.proofs.lemmas.Int.{ints}
use Rattle.std.proofs.lemmas.List.{length-take-le}
use Rattle.bz_base.specs.Cursor.{with_rest}
use Rattle.bz_base.specs.Leb128.{low_bits, leb_at, signed, unsigned, uleb_at, sleb_at}
use Rattle.bz_gsym.specs.Short.{IsShort}

-- which number lies in front of two bytes that aren't both marked
module _ (b d : ℕ) (bytes : List ℕ) where
  one_byte : b < 128 → IsShort (b ∷ d ∷ bytes) b 0
  one_byte low = record {
    few = omega arith;
    within = omega arith;
    number = rw (lt-ltb b 128 low) refl;
    bits_are = omega arith;
    small = omega arith;
  }

  two_bytes : 128 ≤ b → d < 128 → IsShort (b ∷ d ∷ bytes) (b % 128 + 128 * d) 1
  two_bytes marked low = record {
    few = omega arith;
    within = omega arith;
    number = rw (le-ltb b 128 marked, lt-ltb d 128 low) refl;
    bits_are = omega arith;
    small = omega arith;
  }

pub short_is : (bytes : List ℕ) (bits marked : ℕ) → 2 ≤ length bytes → slice_index bytes 0 < 256 → min (slice_index bytes 0) (slice_index bytes 1) < 128 →
    marked ≡ slice_index bytes 0 / 128 → bits ≡ slice_index bytes 0 % 128 + marked * 128 * slice_index bytes 1 → IsShort bytes bits marked
short_is [] bits marked some fits unmarked count sum = absurd (omega arith)
short_is (b ∷ []) bits marked some fits unmarked count sum = absurd (omega arith)
short_is (b ∷ d ∷ bytes) bits marked some fits unmarked count sum =
    elim (cases_eq (b / 128) 0) [
      | inl none ↦
          let marked_is : marked ≡ 0 = omega (arith, count, none) in
          let bits_is : bits ≡ b = omega (arith, sum, rw marked_is at sum) in
          rw (marked_is, bits_is) (one_byte b d bytes (omega arith))
      | inr two ↦
          let marked_is : marked ≡ 1 = omega (arith, count) in
          let bits_is : bits ≡ b % 128 + 128 * d = omega (arith, rw marked_is at sum) in
          rw (marked_is, bits_is) (two_bytes b d bytes (omega arith) (omega arith))
    ]

-- what the upper half of the numbers begins at
pub weight : (marked : ℕ) → marked ≤ 1 → 128 ^ (1 + marked) ≡ 2 * (64 + 8128 * marked)
weight zero few = refl
weight (suc zero) few = refl
weight (suc (suc more)) few = absurd (omega arith)

-- what is read of such a number
module _ (bytes : List ℕ) (bits marked : ℕ) (is : IsShort bytes bits marked) where
  read_short : {A : Type 0} (value : ℕ → ℕ → Option A) →
      option_and_then (λ cut. with_rest (value (length cut.0) (low_bits cut.0)) cut.1) (leb_at bytes) ≡ with_rest (value (1 + marked) bits) (drop (1 + marked) bytes)
  read_short value =
      rw is.number (rw (length-take-le (1 + marked) bytes (omega (arith, is.within)), is.bits_are) refl)

  pub bits_small : bits < 16384
  bits_small = omega (arith, is.small, is.few, weight marked is.few)

  unsigned_bits : unsigned (1 + marked) bits ≡ Some bits
  unsigned_bits = rw (le-leb (1 + marked) 10 (omega (arith, is.few)), lt-ltb bits (2 ^ 64) (omega (arith, bits_small))) refl

  positive_bits : bits < 64 + 8128 * marked → signed (1 + marked) bits ≡ Some (pos bits)
  positive_bits upper =
      rw (
        le-leb (1 + marked) 10 (omega (arith, is.few)),
        weight marked is.few,
        lt-ltb (2 * bits) (2 * (64 + 8128 * marked)) (omega arith),
        lt-ltb bits (2 ^ 63) (omega (arith, bits_small)),
      ) refl

  negative_bits : 64 + 8128 * marked ≤ bits → signed (1 + marked) bits ≡ Some (pos bits -ℤ pos (2 * (64 + 8128 * marked)))
  negative_bits upper =
      rw (
        le-leb (1 + marked) 10 (omega (arith, is.few)),
        weight marked is.few,
        le-ltb (2 * bits) (2 * (64 + 8128 * marked)) (omega arith),
        le-leb (2 * (64 + 8128 * marked)) (bits + 2 ^ 63) (omega (arith, is.few)),
      ) refl

  pub unsigned_short : uleb_at bytes ≡ Some (bits, drop (1 + marked) bytes)
  unfolding uleb_at
  unsigned_short = read_short unsigned ∙ ap (λ v. with_rest v (drop (1 + marked) bytes)) unsigned_bits

  pub positive_short : bits < 64 + 8128 * marked → sleb_at bytes ≡ Some (pos bits, drop (1 + marked) bytes)
  unfolding sleb_at
  positive_short upper = read_short signed ∙ ap (λ v. with_rest v (drop (1 + marked) bytes)) (positive_bits upper)

  pub negative_short : 64 + 8128 * marked ≤ bits → sleb_at bytes ≡ Some (pos bits -ℤ pos (2 * (64 + 8128 * marked)), drop (1 + marked) bytes)
  unfolding sleb_at
  negative_short upper = read_short signed ∙ ap (λ v. with_rest v (drop (1 + marked) bytes)) (negative_bits upper)

-- such a number as a signed one, and that less twice the half
pub same_signed : (z : ℤ) (n : ℕ) → z ≡ pos n → n < 65536 → to_z w64 (of_z w64 z) ≡ pos n
same_signed z n is low = omega (arith, ints)

pub less_signed : (z y : ℤ) (n half : ℕ) → z ≡ pos n → n < 65536 → y ≡ pos half → half < 65536 →
    to_z w64 (of_z w64 (to_z w64 (of_z w64 z) -ℤ to_z w64 (of_z w64 (pos 2 *ℤ to_z w64 (of_z w64 y))))) ≡ pos n -ℤ pos (2 * half)
less_signed z y n half is low half_is half_low = omega (arith, ints)
