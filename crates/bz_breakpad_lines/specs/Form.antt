-- The form of a line: pieces side by side, and what ends it.
-- A form says which texts have it, and what each of them tells.
use Rattle.std.specs.Prelude.{◌≡◌, ℕ, Bool, true, false, not, ◌&&◌, nat_lt, ◌⊎◌, List, [], ◌∷◌, ◌++◌, length, ◌<◌, IsUtf8}
use Rattle.bz_base.specs.Byte.{is_blank, begins_with}
use Rattle.bz_base.specs.Number.{IsHex, IsDecimal}
use Rattle.bz_breakpad_lines.specs.Byte.{is_space, is_tab, is_word_byte}

-- a piece of a line
pub data Piece : Type 0 where
  Tag : List ℕ → Piece  -- these bytes
  Mark : ℕ → Piece  -- this byte and a separator, or nothing
  Separator : Piece  -- one or more blanks
  ModuleSeparator : Piece  -- a space, and any number of blanks: what divides the fields of a MODULE record
  Gap : Piece  -- any number of blanks
  Word : Piece  -- one or more bytes other than space, of which the first is no tab
  Hex : ℕ → Piece  -- one to so many hexadecimal digits
  Decimal : Piece  -- one to ten decimal digits, of a number of 32 bits

-- a form: pieces, and what ends the line
infixr 30 ◌·◌
pub data Form : Type 0 where
  End : Form  -- nothing more
  Name : Form  -- a name
  SeparatorText : Form  -- a separator, and any text
  Many : Form → Form  -- one or more times this form
  ◌·◌ : Piece → Form → Form  -- the piece, and then the form

-- what a piece tells
abbrev pub Tell : Piece → Type 0
Tell (Hex most) = ℕ
Tell Decimal = ℕ
Tell _ = Unit {0}

-- a pair, where the piece tells something
abbrev pub With : Piece → Type 0 → Type 0
With (Hex most) A = ℕ × A
With Decimal A = ℕ × A
With _ A = A

abbrev pub told : (p : Piece) → {A : Type 0} → Tell p → A → With p A
told (Tag t) x rest = rest
told (Mark b) x rest = rest
told Separator x rest = rest
told ModuleSeparator x rest = rest
told Gap x rest = rest
told Word x rest = rest
told (Hex most) x rest = (x, rest)
told Decimal x rest = (x, rest)

-- what a line of the form tells: the numbers of its fields, and its name
abbrev pub Value : Form → Type 0
Value End = Unit {0}
Value Name = List ℕ
Value SeparatorText = Unit {0}
Value (Many f) = List (Value f)
Value (p · f) = With p (Value f)

abbrev pub some_bytes : List ℕ → Bool
some_bytes text = nat_lt 0 (length text)

abbrev pub anything : List ℕ → Bool
anything text = true

abbrev pub is_word : List ℕ → Bool
is_word text = some_bytes text && not (begins_with is_tab text)

-- the greatest number of 32 bits
abbrev pub greatest : ℕ
greatest = 4294967295

abbrev pub AllPass : (ℕ → Bool) → List ℕ → Type 0
AllPass test [] = Unit {0}
AllPass test (b ∷ text) = (test b ≡ true) × AllPass test text

-- a text of such bytes that passes as a whole, and what it tells
pub record IsRun {A : Type 0} (byte : ℕ → Bool) (whole : List ℕ → Bool) (tell : List ℕ → A) (text : List ℕ) (value : A) : Type 0 where
  pub bytes : AllPass byte text
  pub passes : whole text ≡ true
  pub tells : value ≡ tell text

abbrev pub nothing : List ℕ → Unit {0}
nothing text = tt

-- a separator: one or more spaces and tabs
abbrev pub IsSeparator : List ℕ → Type 0
IsSeparator text = IsRun is_blank some_bytes nothing text tt

-- the text is the piece, and tells the value
abbrev pub IsPiece : (p : Piece) → List ℕ → Tell p → Type 0
IsPiece (Tag tag) text value = text ≡ tag
IsPiece (Mark b) text value = (text ≡ []) ⊎ ((separator : List ℕ) × (text ≡ b ∷ separator) × IsSeparator separator)
IsPiece Separator text value = IsSeparator text
IsPiece ModuleSeparator text value = IsRun is_blank (begins_with is_space) nothing text value
IsPiece Gap text value = IsRun is_blank anything nothing text value
IsPiece Word text value = IsRun is_word_byte is_word nothing text value
IsPiece (Hex most) text value = IsHex most text value
IsPiece Decimal text value = IsDecimal 10 greatest text value

-- a name begins with no blank; it may be empty
pub record IsName (text : List ℕ) : Type 0 where
  pub utf8 : IsUtf8 text
  pub front : begins_with is_blank text ≡ false

pub record IsSeparatorText (text : List ℕ) : Type 0 where
  pub separator : List ℕ
  pub more : List ℕ
  pub whole : text ≡ separator ++ more
  pub separator_is : IsSeparator separator

-- a text that is a text of P for each of the values, one after another
abbrev pub InTurn : {A : Type 0} → (List ℕ → A → Type 0) → List ℕ → List A → Type 0
InTurn P text [] = text ≡ []
InTurn P text (v ∷ values) = (front : List ℕ) × (back : List ℕ) × (text ≡ front ++ back) × P front v × InTurn P back values

-- a piece and what comes after it
pub record Splits {A V : Type 0} (p : Piece) (P : List ℕ → A → Type 0) (pair : Tell p → A → V) (text : List ℕ) (value : V) : Type 0 where
  pub front : List ℕ
  pub back : List ℕ
  pub whole : text ≡ front ++ back
  pub tells : Tell p
  pub others : A
  pub front_is : IsPiece p front tells
  pub back_is : P back others
  pub valued : value ≡ pair tells others

-- the text has the form, and tells the value
abbrev pub Spells : (f : Form) → List ℕ → Value f → Type 0
Spells End text value = text ≡ []
Spells Name text value = IsName text × (value ≡ text)
Spells SeparatorText text value = IsSeparatorText text
Spells (Many f) text values = (0 < length values) × InTurn (Spells f) text values
Spells (p · f) text value = Splits p (Spells f) (told p) text value
