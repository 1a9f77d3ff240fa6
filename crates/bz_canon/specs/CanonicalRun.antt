-- Texts of line records that are spelled as a canonical text spells them.
use Rattle.std.specs.Prelude.{◌≡◌, ◌+◌, ◌<◌, ◌++◌, ◌∷◌, [], ℕ, Bool, true, false, not, ◌==◌, ◌&&◌, ◌||◌, nat_le, bit_and, List, length, slice_index}
use Rattle.bz_base.specs.Byte.{line_feed, space}

-- the digit 0: no number in a canonical text has it in front of other digits
abbrev pub zero_digit : ℕ
zero_digit = 48

-- the space, and all bytes below it. Where a line record has such a byte,
-- it stands between fields or ends the line
abbrev pub is_gap : ℕ → Bool
is_gap b = nat_le b space

-- a byte of a line in lower case: letters in upper case lack the bit,
-- and so do tabs and carriage returns
abbrev pub is_lower : ℕ → Bool
is_lower b = not (bit_and b 32 == 0) || b == line_feed

-- a byte that is too much: a space or a zero behind a gap and before a byte that is above the space
abbrev pub is_excess : ℕ → ℕ → ℕ → Bool
is_excess before b after = is_gap before && (b == space || b == zero_digit) && not (is_gap after)

-- of so many bytes each is in lower case, and none is too much
pub record AreCanonical (text : List ℕ) (len : ℕ) : Type 0 where
  pub lower : (k : ℕ) → k < len → is_lower (slice_index text k) ≡ true
  pub fields : (k : ℕ) → k + 2 < len → is_excess (slice_index text k) (slice_index text (k + 1)) (slice_index text (k + 2)) ≡ false

-- all are canonical, none is too much before the first field, and each line has its end
pub record IsCanonicalRun (text : List ℕ) : Type 0 where
  pub bytes : AreCanonical text (length text)
  pub first : is_excess line_feed (slice_index text 0) (slice_index text 1) ≡ false
  pub front : List ℕ
  pub ends : text ≡ front ++ line_feed ∷ []
