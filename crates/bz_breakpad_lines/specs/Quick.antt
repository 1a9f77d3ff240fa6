-- Lines that are read quickly, by loads of many bytes.
-- No white space stands before such a line and no carriage return in it, so its body is the whole line.
use Rattle.std.specs.Prelude.{◌≡◌, false, ℕ, List, ◌∷◌, ◌++◌, Some}
use Rattle.bz_base.specs.Byte.{line_feed, HasNo, begins_with}
use Rattle.bz_base.specs.Line.{ended}
use Rattle.bz_breakpad_lines.specs.Byte.{is_nothing, is_ascii_in_line, is_white}
use Rattle.bz_breakpad_lines.specs.Choice.{body_at}
use Rattle.bz_breakpad_lines.specs.Form.{AllPass, Form, InTurn, Value, Spells}
use Rattle.bz_breakpad_lines.specs.Form.Form.{◌·◌}
use Rattle.bz_breakpad_lines.specs.Contexts.{Context, Record, body_record}

-- the text begins with such a line, which is this record in the context, and the rest comes after it
pub record IsQuick (c : Context) (text : List ℕ) (r : Record) (rest : List ℕ) : Type 0 where
  pub line : List ℕ
  pub cut : text ≡ ended line ++ rest
  pub no_line_feed : HasNo line_feed line
  pub body_is : body_at line ≡ Some line
  pub reads : body_record c line ≡ Some r
  pub solid : begins_with is_white line ≡ false
  pub something : is_nothing line ≡ false

-- fields, and a form in place of the end after them
abbrev pub ended_by : Form → Form → Form
ended_by (p · f) g = p · ended_by f g
ended_by _ g = g

-- the text begins with a line of the form, in which no carriage return stands,
-- and the rest comes after it
pub record IsFormLine (f : Form) (text : List ℕ) (value : Value f) (rest : List ℕ) : Type 0 where
  pub line : List ℕ
  pub cut : text ≡ ended line ++ rest
  pub no_line_feed : HasNo line_feed line
  pub body_is : body_at line ≡ Some line
  pub spells : Spells f line value

-- the text begins with texts of the form that tell these values, and the rest comes after them
pub record AreInTurn (f : Form) (text : List ℕ) (values : List (Value f)) (rest : List ℕ) : Type 0 where
  pub front : List ℕ
  pub whole : text ≡ front ++ rest
  pub are : InTurn (Spells f) front values

-- the text begins with a line in ASCII, and the rest comes after its line feed
pub record IsAsciiLine (text line rest : List ℕ) : Type 0 where
  pub cut : text ≡ line ++ line_feed ∷ rest
  pub bytes : AllPass is_ascii_in_line line
