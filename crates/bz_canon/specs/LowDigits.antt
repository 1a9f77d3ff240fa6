-- The last hexadecimal digits of a number.
use Rattle.std.specs.Prelude.{ℕ, zero, suc, ◌/◌, ◌%◌, false, List, ◌∷◌}
use Rattle.std.specs.Fmt.{digit_glyph}

-- the last hexadecimal digits of a number, so many of them, leading zeros too, in front of a text
unfoldable pub low_digits : ℕ → ℕ → List ℕ → List ℕ
low_digits zero n text = text
low_digits (suc k) n text = low_digits k (n / 16) (digit_glyph false (n % 16) ∷ text)
