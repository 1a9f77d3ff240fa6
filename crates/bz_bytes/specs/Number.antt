-- Numbers in a text: one or more digits, in either case where they are letters, at most so many.
use Rattle.std.specs.Prelude.{◌≡◌, ℕ, ◌<◌, ◌≤◌, false, ◌&&◌, nat_lt, nat_le, List, [], ◌∷◌, ◌++◌, length, take, drop, Option, Some, None, option_and_then, if◌then◌else◌}
use Rattle.std.specs.Char.{is_digit}
use Rattle.std.specs.List.{prefix_len}
use Rattle.std.specs.Str.Parse.{AllDigits, digits_value}
use Rattle.bz_bytes.specs.Byte.{begins_with}

-- one to so many digits of the base, and the number that they spell
pub record IsNumber (base most : ℕ) (text : List ℕ) (value : ℕ) : Type 0 where
  pub positive : 0 < length text
  pub few : length text ≤ most
  pub digits : AllDigits base text
  pub valued : value ≡ digits_value base text

-- one to so many hexadecimal digits, in either case
abbrev pub IsHex : ℕ → List ℕ → ℕ → Type 0
IsHex most text value = IsNumber 16 most text value

-- one to so many decimal digits, of a number that isn't above the greatest
pub record IsDecimal (most greatest : ℕ) (text : List ℕ) (value : ℕ) : Type 0 where
  pub number : IsNumber 10 most text value
  pub fits : value ≤ greatest

-- the number stands at the front of the text, no digit stands after its digits, and the rest is what
-- does
pub record IsAtFront (base most : ℕ) (text : List ℕ) (value : ℕ) (rest : List ℕ) : Type 0 where
  pub front : List ℕ
  pub split : text ≡ front ++ rest
  pub number : IsNumber base most front value
  pub ends : begins_with (λ b. is_digit b base) rest ≡ false

-- how many digits of the base stand in front
abbrev pub digits_len : ℕ → List ℕ → ℕ
digits_len base text = prefix_len (λ b. is_digit b base) text

-- the number of the digits in front, at most so many, and the text after them
unfoldable pub digits_at : ℕ → ℕ → List ℕ → Option (ℕ × List ℕ)
digits_at base most text =
    if nat_lt 0 (digits_len base text) && nat_le (digits_len base text) most
    then Some (digits_value base (take (digits_len base text) text), drop (digits_len base text) text)
    else None

-- the hexadecimal number in front
abbrev pub hex_at : ℕ → List ℕ → Option (ℕ × List ℕ)
hex_at most text = digits_at 16 most text

-- what was read, if its number isn't above the greatest
abbrev pub not_above : ℕ → ℕ × List ℕ → Option (ℕ × List ℕ)
not_above greatest read = if nat_le read.0 greatest then Some read else None

-- the decimal number in front
abbrev pub decimal_at : ℕ → ℕ → List ℕ → Option (ℕ × List ℕ)
decimal_at most greatest text = option_and_then (not_above greatest) (digits_at 10 most text)

-- what was read, if nothing stands after it
abbrev pub alone : ℕ → List ℕ → Option ℕ
alone value [] = Some value
alone value (b ∷ rest) = None

-- the number that the whole text is
abbrev pub whole : Option (ℕ × List ℕ) → Option ℕ
whole read = option_and_then (λ r. alone r.0 r.1) read
