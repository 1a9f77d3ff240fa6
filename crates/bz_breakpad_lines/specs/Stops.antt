-- What the bits of one load tell of the bytes of a text.
use Rattle.std.specs.Prelude.{◌≡◌, ◌+◌, ◌-◌, ◌*◌, ◌^◌, ◌<◌, ◌≤◌, ◌==◌, ℕ, List, not, length, map, take, drop}
use Rattle.std.specs.List.{prefix_len}
use Rattle.std.specs.Str.Parse.{digits_value}
use Rattle.bz_base.specs.Byte.{line_feed}
use Rattle.bz_base.specs.Number.{digits_len}
use Rattle.bz_breakpad_lines.specs.Byte.{is_hex, is_decimal, is_past_space}
use Rattle.bz_breakpad_lines.specs.declared.lanes.Stops.{Stops}
use lib.Lanes.{mask_l}

-- the bits of 64 bytes at most in front: where no hexadecimal digit stands,
-- where no decimal one stands, and where a line feed does
pub record AreStops (text : List ℕ) (stops : Stops) : Type 0 where
  pub shown : ℕ
  pub within : shown ≤ length text
  pub few : shown ≤ 64
  pub hex : stops.hex ≡ mask_l (map (λ b. not (is_hex b)) (take shown text))
  pub dec : stops.dec ≡ mask_l (map (λ b. not (is_decimal b)) (take shown text))
  pub end : stops.end ≡ mask_l (map (λ b. b == line_feed) (take shown text))

-- the bits of 64 bytes at most in front, from a place on: where no byte past space stands
pub record AreFieldStops (text : List ℕ) (from stops : ℕ) : Type 0 where
  pub shown : ℕ
  pub within : shown ≤ length text
  pub few : shown ≤ 64
  pub are : stops ≡ 2 ^ from * mask_l (map (λ b. not (is_past_space b)) (drop from (take shown text)))

-- one to eight bytes past space stand from a place of the text to another, and another byte ends them
abbrev pub IsField : List ℕ → ℕ → ℕ → Type 0
IsField text from end =
    (from < end) × (end ≤ from + 8) × (end < length text) × (prefix_len is_past_space (drop from text) + from ≡ end)

-- one to so many digits of a base stand from a place of the text to another, and a byte ends them
abbrev pub AreDigits : ℕ → ℕ → List ℕ → ℕ → ℕ → Type 0
AreDigits base most text from end =
    (from < end) × (end ≤ from + most) × (end < length text) × (digits_len base (drop from text) + from ≡ end)

-- the number that they spell
abbrev pub number_between : ℕ → List ℕ → ℕ → ℕ → ℕ
number_between base text from end = digits_value base (take (end - from) (drop from text))
