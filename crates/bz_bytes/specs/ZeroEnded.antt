-- Texts that a zero byte ends, in front of bytes and at places of them.
use Rattle.std.specs.Prelude.{◌≡◌, ℕ, ◌==◌, Bool, if◌then◌else◌, List, ◌∷◌, ◌++◌, length, Option, Some, None}
use Rattle.std.specs.List.{list_any, before_first}
use Rattle.std.specs.Str.{IsUtf8}
use Rattle.bz_bytes.specs.Byte.{HasNo, zero_byte}

abbrev pub is_zero : ℕ → Bool
is_zero byte = byte == zero_byte

-- the bytes before the first zero byte
abbrev pub before_zero : List ℕ → List ℕ
before_zero bytes = before_first is_zero bytes

-- those bytes, if there is a zero byte
abbrev pub zero_ended : List ℕ → Option (List ℕ)
zero_ended bytes = if list_any is_zero bytes then Some (before_zero bytes) else None

-- the text stands at the place: the bytes are what lies before it, the text, which is UTF-8, a zero
-- byte, and what lies behind
pub record IsString (bytes : List ℕ) (place : ℕ) (text : List ℕ) : Type 0 where
  pub before : List ℕ
  pub after : List ℕ
  pub whole : bytes ≡ before ++ (text ++ zero_byte ∷ after)
  pub from : length before ≡ place
  pub no_zero : HasNo zero_byte text
  pub utf8 : IsUtf8 text
