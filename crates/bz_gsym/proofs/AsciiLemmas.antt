-- Texts in ASCII, seen by the bits of loads.
use Rattle.std.proofs.Common.{◌≡◌, ℕ, zero, suc, ◌+◌, ◌<◌, ◌≤◌, Bool, true, false, cond, List, [], ◌∷◌, length, take, get_or, Some, refl, arith}
use Rattle.std.specs.List.{list_any, position_or_len, prefix_len, slice_index}
use Rattle.std.specs.Option.{option_and_then}
use Rattle.std.specs.Str.{IsAscii, IsUtf8}
use Rattle.std.proofs.lemmas.Str.{IsUtf8-from_ascii, is_utf8-from_IsUtf8}
use Rattle.bz_base.specs.ZeroEnded.{zero_ended, is_zero}
use Rattle.bz_gsym.specs.Strings.{checked, is_nonzero_ascii}

-- a byte of a text in ASCII isn't zero, and is ASCII
plain_byte : (b : ℕ) → is_nonzero_ascii b ≡ true → (is_zero b ≡ false) × (b < 128)
plain_byte b plain = (grind arith, grind arith)

-- a zero byte behind a text in ASCII ends it
abbrev Ends : ℕ → List ℕ → Type 0
Ends n bytes = (list_any is_zero bytes ≡ true) × (position_or_len is_zero bytes ≡ n)

module _ (b n : ℕ) (bytes : List ℕ) where
  ends_after : (test : Bool) → is_nonzero_ascii b ≡ test → suc n ≤ cond test (1 + prefix_len is_nonzero_ascii bytes) 0 → (n ≤ prefix_len is_nonzero_ascii bytes → Ends n bytes) → Ends (suc n) (b ∷ bytes)
  ends_after false is plain rest = absurd (omega arith)
  ends_after true is plain rest = let ends = rest (omega arith) in rw (plain_byte b is).0 (ends.0, omega (arith, ends.1))

  ascii_after : (test : Bool) → is_nonzero_ascii b ≡ test → suc n ≤ cond test (1 + prefix_len is_nonzero_ascii bytes) 0 → (n ≤ prefix_len is_nonzero_ascii bytes → IsAscii (take n bytes)) → (i : ℕ) → slice_index (b ∷ take n bytes) i < 128
  ascii_after false is plain rest i = absurd (omega arith)
  ascii_after true is plain rest zero = (plain_byte b is).1
  ascii_after true is plain rest (suc i) = rest (omega arith) i

ends_there : (n : ℕ) (bytes : List ℕ) → n ≤ prefix_len is_nonzero_ascii bytes → n < length bytes → get_or bytes n 0 ≡ 0 → Ends n bytes
ends_there n [] plain within ends = absurd (omega arith)
ends_there zero (b ∷ bytes) plain within ends = rw ends (refl, refl)
ends_there (suc n) (b ∷ bytes) plain within ends = ends_after b n bytes (is_nonzero_ascii b) refl plain (λ more. ends_there n bytes more (omega arith) ends)

all_ascii : (n : ℕ) (bytes : List ℕ) → n ≤ prefix_len is_nonzero_ascii bytes → IsAscii (take n bytes)
all_ascii zero bytes plain = λ i. omega arith
all_ascii (suc n) [] plain = λ i. omega arith
all_ascii (suc n) (b ∷ bytes) plain = λ i. ascii_after b n bytes (is_nonzero_ascii b) refl plain (λ more. all_ascii n bytes more) i

-- so it is a string
module _ (n : ℕ) (bytes : List ℕ) (plain : n ≤ prefix_len is_nonzero_ascii bytes) where
  pub plain_utf8 : IsUtf8 (take n bytes)
  plain_utf8 = IsUtf8-from_ascii (take n bytes) (all_ascii n bytes plain)

  pub plain_string : n < length bytes → get_or bytes n 0 ≡ 0 → Some (take n bytes) ≡ option_and_then checked (zero_ended bytes)
  plain_string within ends =
      let there = ends_there n bytes plain within ends in
      rw (there.0, there.1) (rw (is_utf8-from_IsUtf8 (take n bytes) plain_utf8) refl)
