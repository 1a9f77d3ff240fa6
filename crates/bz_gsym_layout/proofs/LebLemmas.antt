-- LEB128 numbers that are written are read again, whatever follows.
use Rattle.std.proofs.Common.{◌≡◌, ℕ, pos, negsuc, zero, suc, ◌+◌, ◌-◌, ◌*◌, ◌/◌, ◌%◌, ◌^◌, ◌<◌, ◌≤◌, ◌-ℤ◌, inl, inr, List, [], ◌∷◌, ◌++◌, length, Some, refl, ap, ◌∙◌, arith}
use Rattle.std.proofs.lemmas.Int.{ints}
use Rattle.std.proofs.lemmas.Bool.{cases_lt, lt-ltb, le-ltb, le-leb}
use Rattle.std.proofs.Math.Nat.{pow-suc}
use Rattle.bz_base.specs.Leb128.{leb_at, low_bits, uleb_at, sleb_at}
use Rattle.bz_gsym_layout.specs.Leb.{unsigned_within, positive_within, negative_within, uleb, sleb}

-- bytes that are a number, whatever follows: so many at most
pub record IsWhole (text : List ℕ) (most : ℕ) : Type 0 where
  pub cut : (rest : List ℕ) → leb_at (text ++ rest) ≡ Some (text, rest)
  pub few : length text ≤ most

-- one byte without a mark is a number
last_byte : (byte most : ℕ) → byte < 128 → 0 < most → IsWhole (byte ∷ []) most
last_byte byte most low some = record { cut = λ rest. rw (lt-ltb byte 128 low) refl; few = omega arith }

-- and with a marked byte in front of a number there is one
marked_byte : (byte : ℕ) (text : List ℕ) (most : ℕ) → 128 ≤ byte → IsWhole text most → IsWhole (byte ∷ text) (suc most)
marked_byte byte text most high is = record { cut = λ rest. rw (le-ltb byte 128 high, is.cut rest) refl; few = let h = is.few in omega arith }

-- an unsigned number of so many bits
unsigned_whole : (more number : ℕ) → number < 128 ^ suc more → IsWhole (unsigned_within more number) (suc more)
unsigned_whole zero number small = last_byte number 1 (omega (arith, pow-suc 128 0)) (omega arith)
unsigned_whole (suc more) number small =
    elim (cases_lt number 128) [
      | inl low ↦ rw (lt-ltb number 128 low) (last_byte number (suc (suc more)) low (omega arith))
      | inr high ↦
          rw (le-ltb number 128 high)
          (marked_byte (128 + number % 128) (unsigned_within more (number / 128)) (suc more) (omega arith)
          (unsigned_whole more (number / 128) (omega (arith, pow-suc 128 (suc more)))))
    ]

unsigned_bits : (more number : ℕ) → number < 128 ^ suc more → low_bits (unsigned_within more number) ≡ number
unsigned_bits zero number small = omega (arith, pow-suc 128 0)
unsigned_bits (suc more) number small =
    elim (cases_lt number 128) [
      | inl low ↦ rw (lt-ltb number 128 low) (omega arith)
      | inr high ↦ rw (le-ltb number 128 high, unsigned_bits more (number / 128) (omega (arith, pow-suc 128 (suc more)))) (omega arith)
    ]

pub uleb_again : (number : ℕ) (rest : List ℕ) → number < 2 ^ 64 → uleb_at (uleb number ++ rest) ≡ Some (number, rest)
unfolding uleb_at uleb
uleb_again number rest small =
    let whole = unsigned_whole 9 number (omega arith) in
    rw (whole.cut rest, le-leb _ 10 whole.few, unsigned_bits 9 number (omega arith), lt-ltb number (2 ^ 64) small) refl

-- a signed number from 0 on
positive_whole : (more number : ℕ) → 2 * number < 128 ^ suc more → IsWhole (positive_within more number) (suc more)
positive_whole zero number small = last_byte number 1 (omega (arith, pow-suc 128 0)) (omega arith)
positive_whole (suc more) number small =
    elim (cases_lt number 64) [
      | inl low ↦ rw (lt-ltb number 64 low) (last_byte number (suc (suc more)) (omega arith) (omega arith))
      | inr high ↦
          rw (le-ltb number 64 high)
          (marked_byte (128 + number % 128) (positive_within more (number / 128)) (suc more) (omega arith)
          (positive_whole more (number / 128) (omega (arith, pow-suc 128 (suc more)))))
    ]

-- its bits are the number, and lie in the lower half
positive_bits : (more number : ℕ) → 2 * number < 128 ^ suc more →
    (low_bits (positive_within more number) ≡ number) × (2 * number + 2 ≤ 128 ^ length (positive_within more number))
positive_bits zero number small = (omega (arith, pow-suc 128 0), omega (arith, pow-suc 128 0))
positive_bits (suc more) number small =
    elim (cases_lt number 64) [
      | inl low ↦ rw (lt-ltb number 64 low) (omega arith, omega (arith, pow-suc 128 0))
      | inr high ↦
          let next = positive_bits more (number / 128) (omega (arith, pow-suc 128 (suc more))) in
          rw (le-ltb number 64 high)
          (ap (λ n. (128 + number % 128) % 128 + 128 * n) next.0 ∙ omega arith, omega (arith, next.1, pow-suc 128 (length (positive_within more (number / 128)))))
    ]

-- and one below 0
negative_whole : (more below : ℕ) → 2 * below < 128 ^ suc more → IsWhole (negative_within more below) (suc more)
negative_whole zero below small = last_byte (127 - below) 1 (omega arith) (omega arith)
negative_whole (suc more) below small =
    elim (cases_lt below 64) [
      | inl low ↦ rw (lt-ltb below 64 low) (last_byte (127 - below) (suc (suc more)) (omega arith) (omega arith))
      | inr high ↦
          rw (le-ltb below 64 high)
          (marked_byte (255 - below % 128) (negative_within more (below / 128)) (suc more) (omega arith)
          (negative_whole more (below / 128) (omega (arith, pow-suc 128 (suc more)))))
    ]

-- its bits lie so far below the next power, in the upper half
negative_bits : (more below : ℕ) → 2 * below < 128 ^ suc more →
    (low_bits (negative_within more below) + suc below ≡ 128 ^ length (negative_within more below))
    × (2 * below + 2 ≤ 128 ^ length (negative_within more below))
negative_bits zero below small = (omega (arith, pow-suc 128 0), omega (arith, pow-suc 128 0))
negative_bits (suc more) below small =
    elim (cases_lt below 64) [
      | inl low ↦ rw (lt-ltb below 64 low) (omega (arith, pow-suc 128 0), omega (arith, pow-suc 128 0))
      | inr high ↦
          let next = negative_bits more (below / 128) (omega (arith, pow-suc 128 (suc more))) in
          rw (le-ltb below 64 high) (
            omega (arith, next.0, pow-suc 128 (length (negative_within more (below / 128)))),
            omega (arith, next.1, pow-suc 128 (length (negative_within more (below / 128)))),
          )
    ]

difference : (bits below all : ℕ) → bits + suc below ≡ all → pos bits -ℤ pos all ≡ negsuc below
difference bits below all sum = omega (arith, ints)

pub positive_again : (number : ℕ) (rest : List ℕ) → number < 2 ^ 63 → sleb_at (sleb (pos number) ++ rest) ≡ Some (pos number, rest)
unfolding sleb_at sleb
positive_again number rest small =
    let whole = positive_whole 9 number (omega arith) in
    let bits = positive_bits 9 number (omega arith) in
    rw (whole.cut rest, le-leb _ 10 whole.few, bits.0, lt-ltb (2 * number) (128 ^ length (positive_within 9 number)) (omega (arith, bits.1)), lt-ltb number (2 ^ 63) small) refl

pub negative_again : (below : ℕ) (rest : List ℕ) → below < 2 ^ 63 → sleb_at (sleb (negsuc below) ++ rest) ≡ Some (negsuc below, rest)
unfolding sleb_at sleb
negative_again below rest small =
    let whole = negative_whole 9 below (omega arith) in
    let bits = negative_bits 9 below (omega arith) in
    let text = negative_within 9 below in
    rw (
      whole.cut rest,
      le-leb _ 10 whole.few,
      le-ltb (2 * low_bits text) (128 ^ length text) (omega (arith, bits.0, bits.1)),
      le-leb (128 ^ length text) (low_bits text + 2 ^ 63) (omega (arith, bits.0, bits.1)),
      difference (low_bits text) below (128 ^ length text) bits.0,
    ) refl
