-- The number that the parts of a LEB128 number make.
use Rattle.std.proofs.Common.{◌≡◌, ℕ, pos, ◌+◌, ◌-◌, ◌*◌, ◌^◌, ◌<◌, ◌≤◌, negsuc, ◌-ℤ◌, to_z, of_z, List, length, drop, Option, Some, None, ◌⊎◌, inl, inr, refl, sym, ap, ◌∙◌, arith}
use Rattle.std.specs.Option.{option_and_then}
use Rattle.std.specs.Int.{w64}
use Rattle.std.proofs.lemmas.Int.{ints}
use Rattle.std.proofs.lemmas.Bool.{lt-ltb, le-ltb, le-leb, lt-leb, cases_lt}
use Rattle.std.proofs.lemmas.List.{length-take-le}
use Rattle.std.proofs.lemmas.Nat.{mul-le}
use Rattle.std.proofs.Math.Nat.{mul-add, pow-le-pow_right}
use Rattle.bz_bytes.specs.Cursor.{with_rest}
use Rattle.bz_bytes.specs.Leb128.{low_bits, leb_at, unsigned, signed, uleb_at, sleb_at, IsInParts}

-- what the code's test of the tenth byte leaves
pub at_most : (len last most : ℕ) → ((len ≡ 10) × (last ≤ most)) ⊎ (len ≡ 10 → ⊥) → len ≡ 10 → last ≤ most
at_most len last most (inl both) ten = both.1
at_most len last most (inr other) ten = absurd (other ten)

pub exactly : (len last digit : ℕ) → ((len ≡ 10) × (last ≡ digit)) ⊎ (len ≡ 10 → ⊥) → len ≡ 10 → last ≡ digit
exactly len last digit (inl both) ten = both.1
exactly len last digit (inr other) ten = absurd (other ten)

module _ (bytes : List ℕ) (low weight last len : ℕ) (parts : IsInParts bytes low weight last len) where
  -- what a reader makes of the bytes is what it makes of the count and the bits
  read_of : {A : Type 0} (value : ℕ → ℕ → Option A) →
      option_and_then (λ cut. with_rest (value (length cut.0) (low_bits cut.0)) cut.1) (leb_at bytes) ≡ with_rest (value len (low + weight * last)) (drop len bytes)
  read_of value = rw (parts.number, length-take-le len bytes parts.within, parts.bits) refl

  -- ten bytes have 64 bits before the last one, and nine or fewer 63 in all
  tenth : len ≡ 10 → weight ≡ 9223372036854775808
  tenth ten = let same = parts.weighs ∙ ap (λ n. 128 ^ n) ten in omega (arith, same)

  shorter : len ≤ 9 → 128 ^ len ≤ 9223372036854775808
  shorter few = pow-le-pow_right {n = 128} (omega arith) few

  pub weight_fits : weight ≤ 9223372036854775808
  weight_fits =
      elim (cases_lt len 10) [
        | inl few ↦ omega (arith, parts.weighs, shorter (omega arith))
        | inr many ↦ omega (arith, tenth (let h = parts.few in omega arith))
      ]

  below_all : low + weight * last < 128 ^ len
  below_all =
      let most = mul-le weight last weight 127 (omega arith) (let h = parts.unmarked in omega arith) in
      omega (arith, parts.weighs, parts.small, most)

  pub unsigned_fits : (len ≡ 10 → last ≤ 1) → low + weight * last < 18446744073709551616
  unsigned_fits at_most =
      elim (cases_lt len 10) [
        | inl few ↦ omega (arith, below_all, shorter (omega arith))
        | inr many ↦
            let ten : len ≡ 10 = let h = parts.few in omega arith in
            let most = mul-le weight last 9223372036854775808 1 (omega (arith, tenth ten)) (at_most ten) in
            omega (arith, parts.small, tenth ten, most)
      ]

  pub unsigned_read : (len ≡ 10 → last ≤ 1) → Some (low + weight * last, drop len bytes) ≡ uleb_at bytes
  unfolding uleb_at
  unsigned_read at_most =
      rw (read_of unsigned, le-leb len 10 parts.few, lt-ltb (low + weight * last) (2 ^ 64) (unsigned_fits at_most)) refl

  pub unsigned_refused : len ≡ 10 → 1 < last → None ≡ uleb_at bytes
  unfolding uleb_at
  unsigned_refused ten more =
      let least = mul-le 9223372036854775808 2 weight last (omega (arith, tenth ten)) (omega arith) in
      rw (read_of unsigned, le-leb len 10 parts.few, le-ltb (low + weight * last) (2 ^ 64) (omega (arith, least))) refl

  -- bit 6 of the last byte says whether the number lies in the lower half
  lower_half : last < 64 → 2 * (low + weight * last) < 128 ^ len
  lower_half clear =
      let most = mul-le weight last weight 63 (omega arith) (omega arith) in
      omega (arith, parts.weighs, parts.small, most)

  upper_half : 64 ≤ last → 128 ^ len ≤ 2 * (low + weight * last)
  upper_half set =
      let least = mul-le weight 64 weight last (omega arith) (omega arith) in
      omega (arith, parts.weighs, least)

  pub positive_fits : last < 64 → (len ≡ 10 → last ≡ 0) → low + weight * last < 9223372036854775808
  positive_fits clear none =
      elim (cases_lt len 10) [
        | inl few ↦ omega (arith, below_all, shorter (omega arith))
        | inr many ↦
            let ten : len ≡ 10 = let h = parts.few in omega arith in
            let nothing : weight * last ≡ weight * 0 = ap (λ n. weight * n) (none ten) in
            omega (arith, parts.small, tenth ten, nothing)
      ]

  pub positive_read : last < 64 → (len ≡ 10 → last ≡ 0) → Some (pos (low + weight * last), drop len bytes) ≡ sleb_at bytes
  unfolding sleb_at
  positive_read clear none =
      rw (
        read_of signed,
        le-leb len 10 parts.few,
        lt-ltb (2 * (low + weight * last)) (128 ^ len) (lower_half clear),
        lt-ltb (low + weight * last) (2 ^ 63) (positive_fits clear none),
      ) refl

  rest : last + (128 - last) ≡ 128
  rest = omega (arith, parts.unmarked)

  -- how far a negative number lies below 0
  pub has_below : low < weight * (128 - last)
  has_below =
      let some : 1 ≤ 128 - last = omega (arith, parts.unmarked) in
      let least = mul-le weight 1 weight (128 - last) (omega arith) some in
      omega (arith, parts.small, least)

  pub below_is : low + weight * last + (weight * (128 - last) - low) ≡ 128 ^ len
  below_is =
      let all = sym (mul-add weight last (128 - last)) ∙ ap (λ n. weight * n) rest in
      omega (arith, parts.weighs, all, has_below)

  pub negative_fits : 64 ≤ last → (len ≡ 10 → last ≡ 127) → 128 ^ len ≤ low + weight * last + 9223372036854775808
  negative_fits set all =
      elim (cases_lt len 10) [
        | inl few ↦ omega (arith, shorter (omega arith))
        | inr many ↦
            let ten : len ≡ 10 = let h = parts.few in omega arith in
            let ones : weight * last ≡ weight * 127 = ap (λ n. weight * n) (all ten) in
            omega (arith, parts.weighs, tenth ten, ones)
      ]

  pub below_fits : 64 ≤ last → (len ≡ 10 → last ≡ 127) → weight * (128 - last) - low ≤ 9223372036854775808
  below_fits set all = omega (arith, below_is, negative_fits set all)

  pub negative_read : 64 ≤ last → (len ≡ 10 → last ≡ 127) → Some (pos (low + weight * last) -ℤ pos (128 ^ len), drop len bytes) ≡ sleb_at bytes
  unfolding sleb_at
  negative_read set all =
      rw (
        read_of signed,
        le-leb len 10 parts.few,
        le-ltb (2 * (low + weight * last)) (128 ^ len) (upper_half set),
        le-leb (128 ^ len) (low + weight * last + 2 ^ 63) (negative_fits set all),
      ) refl

  pub positive_refused : last < 64 → len ≡ 10 → (last ≡ 0 → ⊥) → None ≡ sleb_at bytes
  unfolding sleb_at
  positive_refused clear ten some =
      let least = mul-le 9223372036854775808 1 weight last (omega (arith, tenth ten)) (omega arith) in
      rw (
        read_of signed,
        le-leb len 10 parts.few,
        lt-ltb (2 * (low + weight * last)) (128 ^ len) (lower_half clear),
        le-ltb (low + weight * last) (2 ^ 63) (omega (arith, least)),
      ) refl

  pub negative_refused : 64 ≤ last → len ≡ 10 → (last ≡ 127 → ⊥) → None ≡ sleb_at bytes
  unfolding sleb_at
  negative_refused set ten some =
      let most = mul-le weight last 9223372036854775808 126 (omega (arith, tenth ten)) (let h = parts.unmarked in omega arith) in
      rw (
        read_of signed,
        le-leb len 10 parts.few,
        le-ltb (2 * (low + weight * last)) (128 ^ len) (upper_half set),
        lt-leb (128 ^ len) (low + weight * last + 2 ^ 63) (omega (arith, parts.weighs, parts.small, tenth ten, most)),
      ) refl

-- a number below 0, made of how far below it lies
pub below_zero : (bits below all : ℕ) → bits + below ≡ all → 0 < below → below ≤ 9223372036854775808 →
    to_z w64 (of_z w64 (negsuc 0 -ℤ to_z w64 (below - 1))) ≡ pos bits -ℤ pos all
below_zero bits below all sum some few = omega (arith, ints)
