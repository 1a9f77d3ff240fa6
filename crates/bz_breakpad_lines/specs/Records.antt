-- The forms of a Breakpad file's lines, after docs/symbol_files.md among Breakpad's sources.
-- Above each form stands the section of the document that it is from,
-- and then what a line of the form tells.
-- The document divides fields by one space.
-- Here one or more spaces and tabs do, and numbers may have either case.
use Rattle.std.specs.Prelude.{ℕ, List, [], ◌∷◌, codes}
use Rattle.bz_breakpad_lines.specs.Form.{Form}
use Rattle.bz_breakpad_lines.specs.Form.Piece.{Tag, Mark, Separator, ModuleSeparator, Gap, Word, Hex, Decimal}
use Rattle.bz_breakpad_lines.specs.Form.Form.{End, Name, SeparatorText, Many, ◌·◌}
use Rattle.bz_breakpad_lines.specs.Reads.{IsReadExactly}

-- the mark "m" of FUNC and PUBLIC records, to whose code several symbols refer
abbrev pub letter_m : ℕ
letter_m = 109

-- "MODULE records": name. Operating system, architecture and id are words that aren't kept.
abbrev pub MODULE : Form
MODULE = Tag (codes "MODULE") · Separator · Word · ModuleSeparator · Word · ModuleSeparator · Word · ModuleSeparator · Name

-- a line that Breakpad's dumpers write beside the MODULE record; nothing of it is kept
abbrev pub INFO : Form
INFO = Tag (codes "INFO") · SeparatorText

-- "FILE records": id, path
abbrev pub FILE : Form
FILE = Tag (codes "FILE") · Separator · Decimal · Separator · Name

-- "INLINE_ORIGIN records": id, name
abbrev pub INLINE_ORIGIN : Form
INLINE_ORIGIN = Tag (codes "INLINE_ORIGIN") · Separator · Decimal · Separator · Name

-- "PUBLIC records": address, size of the parameters, name
abbrev pub PUBLIC : Form
PUBLIC = Tag (codes "PUBLIC") · Separator · Mark letter_m · Hex 16 · Separator · Hex 8 · Separator · Name

-- "FUNC records": address, size, size of the parameters, name
abbrev pub FUNC : Form
FUNC = Tag (codes "FUNC") · Separator · Mark letter_m · Hex 16 · Separator · Hex 8 · Separator · Hex 8 · Separator · Name

-- "STACK WIN records": nothing of it is kept
abbrev pub STACK_WIN : Form
STACK_WIN = Tag (codes "STACK WIN") · SeparatorText

-- "STACK CFI records", the first of a group: nothing of it is kept
abbrev pub STACK_CFI_INIT : Form
STACK_CFI_INIT = Tag (codes "STACK CFI INIT") · SeparatorText

-- "STACK CFI records", one that follows in the group: nothing of it is kept
abbrev pub STACK_CFI : Form
STACK_CFI = Tag (codes "STACK CFI") · SeparatorText

-- "Line records": address, size, line, id of the file
abbrev pub LINE : Form
LINE = Hex 16 · Separator · Hex 8 · Separator · Decimal · Separator · Decimal · End

-- "INLINE records", a range of code: address, size
abbrev pub RANGE : Form
RANGE = Separator · Hex 16 · Separator · Hex 8 · End

-- "INLINE records", the call: depth, line, file, id of the origin
abbrev pub CALL : Form
CALL = Tag (codes "INLINE ") · Gap · Decimal · Separator · Decimal · Separator · Decimal · Separator · Decimal · End

-- "INLINE records", whole: the call, and the ranges of the code
abbrev pub INLINE : Form
INLINE = Tag (codes "INLINE ") · Gap · Decimal · Separator · Decimal · Separator · Decimal · Separator · Decimal · Many RANGE

-- "INLINE_ORIGIN records", as an inner record: id, name
abbrev pub INNER_ORIGIN : Form
INNER_ORIGIN = Tag (codes "INLINE_ORIGIN ") · Gap · Decimal · Separator · Name

-- the records that stand by themselves
abbrev pub TOP : List Form
TOP = MODULE ∷ INFO ∷ FILE ∷ INLINE_ORIGIN ∷ PUBLIC ∷ FUNC ∷ STACK_WIN ∷ STACK_CFI_INIT ∷ []

-- the inner records: those that belong to the FUNC record that they stand under
abbrev pub INNER : List Form
INNER = LINE ∷ INLINE ∷ INNER_ORIGIN ∷ []

-- each form is read from exactly the lines that have it
pub record AreFormsRead : Type 0 where
  -- those that stand by themselves
  pub «module» : IsReadExactly MODULE
  pub info : IsReadExactly INFO
  pub file : IsReadExactly FILE
  pub inline_origin : IsReadExactly INLINE_ORIGIN
  pub public : IsReadExactly PUBLIC
  pub func : IsReadExactly FUNC
  pub stack_win : IsReadExactly STACK_WIN
  pub stack_cfi_init : IsReadExactly STACK_CFI_INIT
  -- the one that stands under a STACK CFI INIT record
  pub stack_cfi : IsReadExactly STACK_CFI
  -- the inner ones, which belong to a FUNC record
  pub line : IsReadExactly LINE
  pub inline : IsReadExactly INLINE
  pub inner_origin : IsReadExactly INNER_ORIGIN
