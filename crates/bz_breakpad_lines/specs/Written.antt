-- How a record is written in the plainest way: one space where blanks must stand,
-- and none where they may.
-- Numbers are in lower case, without leading zeros, and a dash stands for a word or a text that isn't
-- kept.
use Rattle.std.specs.Prelude.{ℕ, ◌<◌, ◌≤◌, ◌^◌, false, List, [], ◌∷◌, ◌++◌, map, length, flat_map, decimal}
use mathlib.Core.Logic.{inl, inr}
use Rattle.std.specs.Fmt.{digits}
use Rattle.std.specs.List.{AllByRecursion}
use Rattle.bz_base.specs.Byte.{space, dash}
use Rattle.bz_breakpad_lines.specs.Byte.{is_within_line}
use Rattle.bz_base.specs.Line.{ended}
use Rattle.bz_breakpad_lines.specs.Choice.{One}
use Rattle.bz_breakpad_lines.specs.Form.{Piece, Form, Tell, With, Value, AllPass, IsName, greatest}
use Rattle.bz_breakpad_lines.specs.Form.Piece.{Tag, Mark, Separator, ModuleSeparator, Gap, Word, Hex, Decimal}
use Rattle.bz_breakpad_lines.specs.Form.Form.{End, Name, SeparatorText, Many, ◌·◌}
use Rattle.bz_breakpad_lines.specs.Records.{TOP, INNER, STACK_CFI}
use Rattle.bz_breakpad_lines.specs.Contexts.{Record}
use Rattle.bz_breakpad_lines.specs.Contexts.Record.{Top, OfFunc, OfCfi}

-- what the first piece tells
abbrev pub first_told : (p : Piece) → (A : Type 0) → With p A → Tell p
first_told (Tag t) A value = tt
first_told (Mark b) A value = tt
first_told Separator A value = tt
first_told ModuleSeparator A value = tt
first_told Gap A value = tt
first_told Word A value = tt
first_told (Hex most) A value = value.0
first_told Decimal A value = value.0

-- what the rest of the form tells
abbrev pub rest_told : (p : Piece) → (A : Type 0) → With p A → A
rest_told (Tag t) A value = value
rest_told (Mark b) A value = value
rest_told Separator A value = value
rest_told ModuleSeparator A value = value
rest_told Gap A value = value
rest_told Word A value = value
rest_told (Hex most) A value = value.1
rest_told Decimal A value = value.1

-- the plainest text of a piece
abbrev pub piece_text : (p : Piece) → Tell p → List ℕ
piece_text (Tag tag) value = tag
piece_text (Mark b) value = []
piece_text Separator value = space ∷ []
piece_text ModuleSeparator value = space ∷ []
piece_text Gap value = []
piece_text Word value = dash ∷ []
piece_text (Hex most) value = digits 16 false value
piece_text Decimal value = decimal value

-- the plainest text of the form that tells the value
abbrev pub form_text : (f : Form) → Value f → List ℕ
form_text End value = []
form_text Name value = value
form_text SeparatorText value = space ∷ dash ∷ []
form_text (Many f) values = flat_map (form_text f) values
form_text (p · f) value = piece_text p (first_told p (Value f) value) ++ form_text f (rest_told p (Value f) value)

-- the text of one of the forms
abbrev pub one_text : (forms : List Form) → One forms → List ℕ
one_text [] none = absurd none
one_text (f ∷ forms) (inl value) = form_text f value
one_text (f ∷ forms) (inr other) = one_text forms other

-- the line of a record, without its end
abbrev pub record_text : Record → List ℕ
record_text (Top one) = one_text TOP one
record_text (OfFunc one) = one_text INNER one
record_text OfCfi = form_text STACK_CFI tt

-- the lines of the records
abbrev pub records_text : List Record → List ℕ
records_text records = flat_map ended (map record_text records)

-- a name that a line can have
pub record IsLineName (name : List ℕ) : Type 0 where
  pub name_is : IsName name
  pub within : AllPass is_within_line name

-- a number that the piece can tell
abbrev pub PieceFits : (p : Piece) → Tell p → Type 0
PieceFits (Hex most) value = value < 16 ^ most
PieceFits Decimal value = value ≤ greatest
PieceFits _ value = Unit {0}

-- a value that a text of the form can tell
abbrev pub FormFits : (f : Form) → Value f → Type 0
FormFits End value = Unit {0}
FormFits Name value = IsLineName value
FormFits SeparatorText value = Unit {0}
FormFits (Many f) values = (0 < length values) × AllByRecursion (FormFits f) values
FormFits (p · f) value = PieceFits p (first_told p (Value f) value) × FormFits f (rest_told p (Value f) value)

abbrev pub OneFits : (forms : List Form) → One forms → Type 0
OneFits [] none = ⊥
OneFits (f ∷ forms) (inl value) = FormFits f value
OneFits (f ∷ forms) (inr other) = OneFits forms other

-- a record that a line can be
abbrev pub RecordFits : Record → Type 0
RecordFits (Top one) = OneFits TOP one
RecordFits (OfFunc one) = OneFits INNER one
RecordFits OfCfi = Unit {0}
