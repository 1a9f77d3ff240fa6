-- Where line records start, and whether their starts stand in order,
-- as the texts of the starts tell it.
use Rattle.std.specs.Prelude.{◌≡◌, ◌<◌, ◌≤◌, ◌++◌, ◌∷◌, [], ℕ, List, length, drop, map, slice_index, unwrap_or, bit_or, IsSome}
use Rattle.std.specs.Int.Digits.{number_from_digits}
use Rattle.std.specs.Str.Parse.{AllDigits, digits_value}
use Rattle.bz_breakpad_lines.specs.Line.{line_in}
use Rattle.bz_breakpad_lines.specs.Table.{SourceLine}
use Rattle.bz_breakpad_lines.specs.declared.start_text.StartText.{StartText}

-- what stands at a place where no line record does
abbrev pub no_line : SourceLine
no_line = record { start = 0; size = 0; line = 0; file = 0 }

-- the line record at a place where one is read
abbrev pub line_read : List ℕ → ℕ → SourceLine
line_read bytes place = unwrap_or (line_in (drop place bytes)) no_line

abbrev pub line_start : List ℕ → ℕ → ℕ
line_start bytes place = (line_read bytes place).start

abbrev pub line_size : List ℕ → ℕ → ℕ
line_size bytes place = (line_read bytes place).size

-- the starts of the line records at these places
abbrev pub line_starts : List ℕ → List ℕ → List ℕ
line_starts bytes places = map (line_start bytes) places

-- each start is above the one before it
abbrev pub StrictlyAscends : List ℕ → Type 0
StrictlyAscends starts = (i j : ℕ) → i < j → j < length starts → slice_index starts i < slice_index starts j

-- a letter in lower case; a decimal digit stays as it is
abbrev pub folded : ℕ → ℕ
folded byte = bit_or byte 32

-- the text of a start: how many digits it has, one to eight, and their bytes as one number.
-- The first byte is its greatest, and letters count there as in lower case
pub record IsStartText (start : ℕ) (text : StartText) : Type 0 where
  pub digits : List ℕ
  pub are_digits : AllDigits 16 digits
  pub spell : digits_value 16 digits ≡ start
  pub count : length digits ≡ text.digits
  pub positive : 0 < text.digits
  pub few : text.digits ≤ 8
  pub key : number_from_digits 256 (map folded digits) ≡ text.key

-- the starts ascend up to the last one, whose text this is
pub record AscendTo (starts : List ℕ) (text : StartText) : Type 0 where
  pub ascend : StrictlyAscends starts
  pub front : List ℕ
  pub last : ℕ
  pub are : starts ≡ front ++ last ∷ []
  pub text_is : IsStartText last text

-- a line record is read at the place
abbrev pub ReadsLine : List ℕ → ℕ → Type 0
ReadsLine bytes place = IsSome (line_in (drop place bytes))
