-- What stands at a symbol's data place: its size, its name, and a list of data entries
-- (llvm::gsym::FunctionInfo).
use Rattle.std.specs.Prelude.{◌≡◌, ◌≢◌, ℕ, zero, suc, ◌+◌, ◌==◌, ◌&&◌, not, nat_le, Bool, if◌then◌else◌, List, [], ◌∷◌, ◌++◌, length, take, drop, Option, Some, None}
use Rattle.bz_base.specs.Cursor.{little}
use Rattle.bz_base.specs.Little.{number_at}

-- a symbol's data: its size in bytes, the place of its name in the string table, and the bytes behind,
-- where its entries lie
pub record Info : Type 0 where
  pub size : ℕ
  pub name : ℕ
  pub rest : List ℕ

-- how many bytes stand before a symbol's entries: those of its size and of its name
abbrev pub function_info_len : ℕ
function_info_len = 8

-- the data at a place, if size and name lie in the bytes
abbrev pub info_at : List ℕ → ℕ → Option Info
info_at bytes place =
    if nat_le (place + function_info_len) (length bytes)
    then Some (record { size = number_at 4 bytes place; name = number_at 4 bytes (place + 4); rest = drop (place + function_info_len) bytes })
    else None

-- the type that ends a list of data entries, and those of line tables and of inline trees
abbrev pub end_of_list : ℕ
end_of_list = 0

abbrev pub line_table : ℕ
line_table = 1

abbrev pub inline_tree : ℕ
inline_tree = 2

-- a data entry: its type and its bytes
pub record Entry : Type 0 where
  pub typ : ℕ
  pub text : List ℕ

-- how many bytes stand before those of an entry: its type and its length, of 4 bytes each
abbrev pub entry_head_len : ℕ
entry_head_len = 8

-- so many bytes in front are an entry: its head, and as many bytes as the length says
abbrev pub entry_len : List ℕ → ℕ
entry_len bytes = entry_head_len + number_at 4 bytes 4

-- an entry lies in front, and isn't the end of the list
abbrev pub has_entry : List ℕ → Bool
has_entry bytes = not (number_at 4 bytes 0 == end_of_list) && nat_le (entry_len bytes) (length bytes)

-- that entry
abbrev pub first_entry : List ℕ → Entry
first_entry bytes = record { typ = number_at 4 bytes 0; text = take (number_at 4 bytes 4) (drop entry_head_len bytes) }

-- the entries in front, at most so many
abbrev pub entries_within : ℕ → List ℕ → List Entry
entries_within zero bytes = []
entries_within (suc most) bytes = if has_entry bytes then first_entry bytes ∷ entries_within most (drop (entry_len bytes) bytes) else []

-- the entries up to the end of the list, or up to where the bytes don't suffice
unfoldable pub entries_in : List ℕ → List Entry
entries_in bytes = entries_within (length bytes) bytes

-- the bytes are an entry and what follows it
pub record Begins (bytes : List ℕ) (entry : Entry) (rest : List ℕ) : Type 0 where
  pub typ : List ℕ
  pub len : List ℕ
  pub whole : bytes ≡ typ ++ len ++ entry.text ++ rest
  pub type_width : length typ ≡ 4
  pub length_width : length len ≡ 4
  pub type_is : little typ ≡ entry.typ
  pub length_is : little len ≡ length entry.text
  pub goes_on : entry.typ ≢ end_of_list

-- the bytes are these entries side by side, and then no further one follows
abbrev pub AreEntries : List ℕ → List Entry → Type 0
AreEntries bytes [] = (entry : Entry) (rest : List ℕ) → ¬ (Begins bytes entry rest)
AreEntries bytes (entry ∷ entries) = (rest : List ℕ) × (Begins bytes entry rest × AreEntries rest entries)
