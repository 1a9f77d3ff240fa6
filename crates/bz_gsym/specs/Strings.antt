-- The strings of a GSYM file: texts that a zero byte ends, named by their places in the string table
-- (llvm::gsym::StringTable).
use Rattle.std.specs.Prelude.{ℕ, ◌&&◌, nat_lt, Bool, if◌then◌else◌, List, drop, Option, Some, None, option_and_then}
use Rattle.std.specs.Char.{is_ascii}
use Rattle.std.specs.Str.{is_utf8}
use Rattle.bz_base.specs.Byte.{zero_byte}
use Rattle.bz_base.specs.ZeroEnded.{zero_ended}

-- a byte of a text in ASCII
abbrev pub is_nonzero_ascii : ℕ → Bool
is_nonzero_ascii byte = nat_lt zero_byte byte && is_ascii byte

-- a text, if it is UTF-8
abbrev pub checked : List ℕ → Option (List ℕ)
checked text = if is_utf8 text then Some text else None

-- the string at a place of a string table
abbrev pub string_at : List ℕ → ℕ → Option (List ℕ)
string_at table place = option_and_then checked (zero_ended (drop place table))
