-- The bytes of a Breakpad line, by kind.
use Rattle.std.specs.Prelude.{ℕ, Bool, ◌==◌, ◌&&◌, ◌||◌, not, nat_lt, true, false, List, [], ◌∷◌}
use Rattle.std.specs.Char.{is_ascii, is_digit}
use Rattle.bz_base.specs.Byte.{tab, line_feed, carriage_return, space, is_blank}

abbrev pub is_space : ℕ → Bool
is_space b = b == space

abbrev pub is_tab : ℕ → Bool
is_tab b = b == tab

abbrev pub is_hex : ℕ → Bool
is_hex b = is_digit b 16

abbrev pub is_decimal : ℕ → Bool
is_decimal b = is_digit b 10

-- the bytes of a word
abbrev pub is_word_byte : ℕ → Bool
is_word_byte b = not (b == space)

-- the bytes with which a field may begin
abbrev pub is_solid : ℕ → Bool
is_solid b = not (is_blank b)

-- white space within a line
abbrev pub is_white : ℕ → Bool
is_white b = is_blank b || b == carriage_return

-- a byte that ends no line
abbrev pub is_within_line : ℕ → Bool
is_within_line b = not (b == line_feed || b == carriage_return)

-- one in ASCII
abbrev pub is_ascii_in_line : ℕ → Bool
is_ascii_in_line b = is_ascii b && is_within_line b

-- one after space, as digits and letters are
abbrev pub is_past_space : ℕ → Bool
is_past_space b = nat_lt space b

abbrev pub is_carriage_return : ℕ → Bool
is_carriage_return b = b == carriage_return

abbrev pub is_nothing : List ℕ → Bool
is_nothing [] = true
is_nothing (b ∷ text) = false
