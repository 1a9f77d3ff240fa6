-- The id by which a process knows itself. The line `NStgid` of `/proc/PID/status` has the ids of the
-- process in the namespaces around it, and its own last. See proc_pid_status(5) of the Linux manual
-- pages, a part of proc(5).
use Rattle.std.specs.Prelude.{◌≡◌, ◌⊎◌, ℕ, ◌-◌, ◌<◌, ◌≤◌, Bool, true, false, ◌==◌, ◌&&◌, ◌||◌, nat_eq, nat_lt, nat_le, List, [], ◌∷◌, ◌++◌, length, take, drop, codes, Option, Some, None, option_map, if◌then◌else◌}
use Rattle.std.specs.Char.{is_digit}
use Rattle.std.specs.List.{AllByRecursion, find, list_all, starts_with, suffix_len, after_last}
use Rattle.std.specs.Str.{IsUtf8, is_utf8}
use Rattle.std.specs.Str.Parse.{IsNumeral, digits_value, without_leading_plus}
use Rattle.bz_base.specs.Byte.{tab, carriage_return, space}
use Rattle.bz_base.specs.Line.{AreLines, all_lines}

-- what the line of the ids begins with
abbrev pub label : List ℕ
label = codes "NStgid:"

abbrev pub form_feed : ℕ
form_feed = 12

-- words stand between these
abbrev pub is_between : ℕ → Bool
is_between b = b == space || b == tab || b == form_feed || b == carriage_return

-- what stands before the last word: nothing, or a text that ends in what words stand between
abbrev pub EndsBetween : List ℕ → Type 0
EndsBetween front = (front ≡ []) ⊎ ((more : List ℕ) × (b : ℕ) × (front ≡ more ++ b ∷ []) × (is_between b ≡ true))

-- the last word of the text
pub record IsLastWord (text word : List ℕ) : Type 0 where
  pub front : List ℕ
  pub back : List ℕ
  pub parts : text ≡ front ++ (word ++ back)
  pub before : EndsBetween front
  pub positive : 0 < length word
  pub solid : AllByRecursion (λ b. is_between b ≡ false) word
  pub behind : AllByRecursion (λ b. is_between b ≡ true) back

-- the greatest number of 32 bits
abbrev pub greatest : ℕ
greatest = 4294967295

-- a word spells an id: one or more decimal digits, with a plus in front or without one, of a number of
-- 32 bits
pub record SpellsId (word : List ℕ) (id : ℕ) : Type 0 where
  pub numeral : IsNumeral 10 (without_leading_plus word)
  pub valued : id ≡ digits_value 10 (without_leading_plus word)
  pub fits : id ≤ greatest

-- whether a line begins with the label
abbrev pub has_label : List ℕ → Bool
has_label line = starts_with nat_eq line label

-- the first of the lines with the label
pub record IsFirstLabelled (lines : List (List ℕ)) (line : List ℕ) : Type 0 where
  pub before : List (List ℕ)
  pub after : List (List ℕ)
  pub parts : lines ≡ before ++ line ∷ after
  pub labelled : has_label line ≡ true
  pub others : AllByRecursion (λ l. has_label l ≡ false) before

-- the text is UTF-8, and none of its lines begins with the label
pub record TellsNone (status : List ℕ) : Type 0 where
  pub utf8 : IsUtf8 status
  pub lines : List (List ℕ)
  pub are_lines : AreLines status lines
  pub others : AllByRecursion (λ l. has_label l ≡ false) lines

-- the text is UTF-8, and behind the label of the first line that begins with it the last word spells
-- the id
pub record TellsId (status : List ℕ) (id : ℕ) : Type 0 where
  pub utf8 : IsUtf8 status
  pub lines : List (List ℕ)
  pub line : List ℕ
  pub word : List ℕ
  pub are_lines : AreLines status lines
  pub first : IsFirstLabelled lines line
  pub last : IsLastWord (drop (length label) line) word
  pub spells : SpellsId word id

abbrev pub Tells : List ℕ → Option ℕ → Type 0
Tells status None = TellsNone status
Tells status (Some id) = TellsId status id

-- The same, read from the front. That it tells the same is a law of this crate.

-- the text without what stands behind its last word
abbrev pub to_last_word : List ℕ → List ℕ
to_last_word text = take (length text - suffix_len is_between text) text

-- the last word of the text; it is empty where there is none
abbrev pub last_word : List ℕ → List ℕ
last_word text = after_last is_between (to_last_word text)

-- the number that a word of decimal digits spells, with a plus in front or without one, if it isn't
-- above the greatest
abbrev pub number_by : List ℕ → Option ℕ
number_by digits =
    if nat_lt 0 (length digits) && list_all (λ b. is_digit b 10) digits && nat_le (digits_value 10 digits) greatest
    then Some (digits_value 10 digits)
    else None

abbrev pub number_in : List ℕ → Option ℕ
number_in word = number_by (without_leading_plus word)

-- what stands behind the label of the first line that begins with it
abbrev pub labelled : List ℕ → Option (List ℕ)
labelled status = option_map (drop (length label)) (find has_label (all_lines status))

-- the id that stands last behind the label, if there is such a line; nothing is told where no number
-- stands there
abbrev pub id_behind : Option (List ℕ) → Option (Option ℕ)
id_behind None = Some None
id_behind (Some text) = option_map (λ id. Some id) (number_in (last_word text))

-- the id that a status tells, if it has such a line. A text that isn't UTF-8, or has no number there,
-- tells nothing
abbrev pub ns_tgid_in : List ℕ → Option (Option ℕ)
ns_tgid_in status = if is_utf8 status then id_behind (labelled status) else None
