-- A line of `/proc/PID/maps`, whose fields stand side by side: address, permissions, offset, device,
-- inode and path name. See proc_pid_maps(5) of the Linux manual pages, a part of proc(5).
use Rattle.std.specs.Prelude.{◌≡◌, ℕ, ◌<◌, ◌≤◌, Bool, true, false, not, ◌==◌, ◌&&◌, nat_lt, nat_le, List, [], ◌∷◌, ◌++◌, length, drop, Option, Some, None, if◌then◌else◌}
use Rattle.std.specs.Char.{is_digit}
use Rattle.std.specs.List.{AllByRecursion, prefix_len}
use Rattle.bz_base.specs.Bind.{◌>>=◌}
use Rattle.bz_base.specs.Byte.{space, dash, begins_with}
use Rattle.bz_base.specs.Number.{IsHex, hex_at}

-- what a line tells: where the mapping begins and ends, the offset of its first byte, and the text that
-- stands last
pub record Line : Type 0 where
  pub start : ℕ
  pub past : ℕ
  pub offset : ℕ
  pub text : List ℕ

-- The parts of a line, as sets of texts.

abbrev pub is_space : ℕ → Bool
is_space b = b == space

-- a byte other than a space
abbrev pub is_solid : ℕ → Bool
is_solid b = not (b == space)

abbrev pub is_decimal : ℕ → Bool
is_decimal b = is_digit b 10

abbrev pub at_least_one : ℕ → Bool
at_least_one n = nat_lt 0 n

abbrev pub exactly_four : ℕ → Bool
exactly_four n = n == 4

abbrev pub one_to_twenty : ℕ → Bool
one_to_twenty n = nat_lt 0 n && nat_le n 20

-- bytes of one kind, and a fitting number of them
pub record IsRun (kind fits : ℕ → Bool) (text : List ℕ) : Type 0 where
  pub bytes : AllByRecursion (λ b. kind b ≡ true) text
  pub many : fits (length text) ≡ true

-- one to sixteen hexadecimal digits of the number, in either case
abbrev pub IsWord : ℕ → List ℕ → Type 0
IsWord number text = IsHex 16 text number

abbrev pub IsDash : List ℕ → Type 0
IsDash text = text ≡ dash ∷ []

-- one or more
abbrev pub AreSpaces : List ℕ → Type 0
AreSpaces = IsRun is_space at_least_one

-- four bytes other than space
abbrev pub ArePermissions : List ℕ → Type 0
ArePermissions = IsRun is_solid exactly_four

-- one or more bytes other than space
abbrev pub IsDevice : List ℕ → Type 0
IsDevice = IsRun is_solid at_least_one

-- one to twenty decimal digits
abbrev pub IsInode : List ℕ → Type 0
IsInode = IsRun is_decimal one_to_twenty

-- the end of a line: spaces, and a text that begins with none; before a text there is at least one
-- space
pub record IsEnd (text whole : List ℕ) : Type 0 where
  pub spaces : List ℕ
  pub parts : whole ≡ spaces ++ text
  pub bytes : AllByRecursion (λ b. is_space b ≡ true) spaces
  pub apart : 0 < length text → 0 < length spaces
  pub begins : begins_with is_space text ≡ false

-- a text of the first set, and after it one of the second
pub record Joined (First Second : List ℕ → Type 0) (text : List ℕ) : Type 0 where
  pub front : List ℕ
  pub back : List ℕ
  pub parts : text ≡ front ++ back
  pub first : First front
  pub second : Second back

infixr 30 ◌·◌
abbrev pub ◌·◌ : (List ℕ → Type 0) → (List ℕ → Type 0) → List ℕ → Type 0
(First · Second) text = Joined First Second text

-- the fields that tell this, side by side
abbrev pub AreFields : Line → List ℕ → Type 0
AreFields told =
    IsWord told.start · IsDash · IsWord told.past · AreSpaces · ArePermissions · AreSpaces
    · IsWord told.offset · AreSpaces · IsDevice · AreSpaces · IsInode · IsEnd told.text

-- a line of a mapping, and what it tells
pub record IsLine (line : List ℕ) (told : Line) : Type 0 where
  pub fields : AreFields told line
  pub ordered : told.start ≤ told.past

-- The same, read from the front. That it tells the same is a law of this crate.

-- the text after all bytes of the kind in front, where a fitting number of them stands there
unfoldable pub after_run : (ℕ → Bool) → (ℕ → Bool) → List ℕ → Option (List ℕ)
after_run kind fits text = if fits (prefix_len kind text) then Some (drop (prefix_len kind text) text) else None

-- the text after the dash in front
unfoldable pub after_dash : List ℕ → Option (List ℕ)
after_dash [] = None
after_dash (b ∷ text) = if b == dash then Some text else None

-- the text that an end of a line has, by how many spaces stand in front
unfoldable pub end_text : List ℕ → Option (List ℕ)
end_text [] = Some []
end_text (b ∷ text) = if is_space b then Some (drop (prefix_len is_space text) text) else None

-- what was read, where the mapping doesn't end before it begins
abbrev pub in_order : Line → Option Line
in_order told = if nat_le told.start told.past then Some told else None

-- the numbers of a start and an end, with the dash between them, and the text after them
abbrev pub span_at : List ℕ → Option ((ℕ × ℕ) × List ℕ)
span_at line = do
  start ← hex_at 16 line
  past ← after_dash start.1
  read ← hex_at 16 past
  Some ((start.0, read.0), read.1)

-- the offset, which stands behind the permissions, and the text after it
abbrev pub offset_at : List ℕ → Option (ℕ × List ℕ)
offset_at text = do
  permissions ← after_run is_space at_least_one text
  gap ← after_run is_solid exactly_four permissions
  offset ← after_run is_space at_least_one gap
  hex_at 16 offset

-- the text that stands last, behind device and inode
abbrev pub last_at : List ℕ → Option (List ℕ)
last_at text = do
  device ← after_run is_space at_least_one text
  gap ← after_run is_solid at_least_one device
  inode ← after_run is_space at_least_one gap
  last ← after_run is_decimal one_to_twenty inode
  end_text last

-- what a line tells, if it is one of a mapping
abbrev pub line_in : List ℕ → Option Line
line_in line = do
  span ← span_at line
  offset ← offset_at span.1
  text ← last_at offset.1
  in_order (record { start = span.0.0; past = span.0.1; offset = offset.0; text = text })
