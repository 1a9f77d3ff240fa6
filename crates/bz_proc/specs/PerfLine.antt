-- The lines of a perf map, by which a process tells of the functions that it compiled for itself. The
-- format is that of Linux's tools/perf/Documentation/jit-interface.txt: a file `perf-PID.map` of lines
-- `START SIZE symbolname`, both numbers hexadecimal.
use Rattle.std.specs.Prelude.{◌≡◌, ℕ, ◌+◌, ◌^◌, ◌<◌, Bool, true, not, nat_lt, ◌==◌, ◌&&◌, ◌||◌, List, ◌∷◌, ◌++◌, length, take, drop, Option, Some, None, option_map, option_and_then, if◌then◌else◌, IsUtf8}
use Rattle.std.specs.Char.{is_digit}
use Rattle.std.specs.List.{list_all, prefix_len}
use Rattle.std.specs.Str.{is_utf8}
use Rattle.std.specs.Str.Parse.{IsNumeral, digits_value, without_leading_plus}
use Rattle.bz_base.specs.Byte.{space, tab}
use Rattle.bz_proc.specs.Status.{form_feed}

-- a function: its name, its first address, and how many bytes it has
pub record PerfFunction : Type 0 where
  pub name : List ℕ
  pub start : ℕ
  pub size : ℕ

-- the byte parts a line's numbers and name
abbrev pub separates : ℕ → Bool
separates b = b == space || b == tab || b == form_feed

-- a number: an optional plus sign, and one or more hexadecimal digits in either case, of a number of 64
-- bits
pub record IsPerfNumber (text : List ℕ) (value : ℕ) : Type 0 where
  pub digits : IsNumeral 16 (without_leading_plus text)
  pub valued : value ≡ digits_value 16 (without_leading_plus text)
  pub fits : value < 2 ^ 64

-- a line: the start, a byte that separates, the size, another such byte, and then the name in UTF-8
pub record IsPerfLine (line : List ℕ) (f : PerfFunction) : Type 0 where
  pub start_text : List ℕ
  pub after_start : ℕ
  pub size_text : List ℕ
  pub after_size : ℕ
  pub whole : line ≡ start_text ++ after_start ∷ (size_text ++ after_size ∷ f.name)
  pub start_separated : separates after_start ≡ true
  pub size_separated : separates after_size ≡ true
  pub start : IsPerfNumber start_text f.start
  pub size : IsPerfNumber size_text f.size
  pub name : IsUtf8 f.name

-- how many bytes stand before the first one that separates
abbrev pub field_len : List ℕ → ℕ
field_len text = prefix_len (λ b. not (separates b)) text

-- the text before that byte, and the text after it; none where no byte separates
unfoldable pub field_at : List ℕ → Option (List ℕ × List ℕ)
field_at text = if nat_lt (field_len text) (length text) then Some (take (field_len text) text, drop (field_len text + 1) text) else None

-- the digits are some, and spell a number of 64 bits
abbrev pub are_number : List ℕ → Bool
are_number digits = nat_lt 0 (length digits) && (list_all (λ b. is_digit b 16) digits && nat_lt (digits_value 16 digits) (2 ^ 64))

-- the number of such digits
abbrev pub number_of : List ℕ → Option ℕ
number_of digits = if are_number digits then Some (digits_value 16 digits) else None

-- the number that the whole text is
unfoldable pub perf_number : List ℕ → Option ℕ
perf_number text = number_of (without_leading_plus text)

-- the bytes, if they are a text
abbrev pub utf8_in : List ℕ → Option (List ℕ)
utf8_in bytes = if is_utf8 bytes then Some bytes else None

-- the function of a line; none where the line has another form
unfoldable pub perf_function_in : List ℕ → Option PerfFunction
perf_function_in line =
    option_and_then (λ first. option_and_then (λ second. option_and_then (λ start. option_and_then (λ size.
    option_map (λ name. record { name = name; start = start; size = size }) (utf8_in second.1))
    (perf_number second.0)) (perf_number first.0)) (field_at first.1)) (field_at line)
