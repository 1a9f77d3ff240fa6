-- The symbols of an ELF file in its order: its functions, by name, start and size. See the System V
-- gABI, chapter 4.
use Rattle.std.specs.Prelude.{ℕ, ◌+◌, ◌/◌, ◌%◌, ◌==◌, ◌&&◌, ◌||◌, not, Bool, List, [], drop, map, Option, Some, None, if◌then◌else◌}
use Rattle.std.specs.List.{list_any, filter_map}
use Rattle.std.specs.Str.{is_utf8}
use Rattle.bz_base.specs.ZeroEnded.{before_zero, is_zero}
use Rattle.bz_base.specs.Little.{number_at}
use Rattle.bz_elf.specs.Parts.{places}
use Rattle.bz_elf.specs.Sections.{symbol_table, strings}
use Rattle.bz_elf.specs.declared.types.Section.{Section}
use Rattle.bz_elf.specs.declared.types.SymbolEntry.{SymbolEntry}

-- the size of an entry of a symbol table, Elf64_Sym
abbrev pub symbol_len : ℕ
symbol_len = 24

-- the types of symbols that are functions: called as they are, or chosen when the file is loaded. The
-- gABI leaves the second to systems, and GNU uses it so.
abbrev pub stt_func : ℕ
stt_func = 2

abbrev pub stt_gnu_ifunc : ℕ
stt_gnu_ifunc = 10

abbrev pub is_function : ℕ → Bool
is_function kind = kind == stt_func || kind == stt_gnu_ifunc

-- the type of a symbol by its st_info, as ELF64_ST_TYPE: the lower four bits
abbrev pub st_type : ℕ → ℕ
st_type info = info % 16

-- the index that says that a symbol lies in no section
abbrev pub shn_undef : ℕ
shn_undef = 0

-- the symbol at a place counts: by st_info, at 4, it is a function, and by st_shndx, at 6, it lies in a
-- section
abbrev pub counts : List ℕ → ℕ → Bool
counts bytes place = is_function (st_type (number_at 1 bytes (place + 4))) && not (number_at 2 bytes (place + 6) == shn_undef)

-- its numbers: st_name at 0, st_value at 8, st_size at 16
abbrev pub entry_at : List ℕ → ℕ → SymbolEntry
entry_at bytes place = record {
  name = number_at 4 bytes place;
  start = number_at 8 bytes (place + 8);
  size = number_at 8 bytes (place + 16);
}

-- if it counts
abbrev pub counted_at : List ℕ → ℕ → Option SymbolEntry
counted_at bytes place = if counts bytes place then Some (entry_at bytes place) else None

-- where the entries of a symbol table lie
abbrev pub places_of : Option Section → List ℕ
places_of None = []
places_of (Some table) = places table.offset symbol_len (table.size / symbol_len)

-- the entries that count, in the order of the file
unfoldable pub entries : List ℕ → List SymbolEntry
entries bytes = filter_map (counted_at bytes) (places_of (symbol_table bytes))

-- a name stands in front of the bytes: UTF-8 that a zero byte ends
abbrev pub is_name : List ℕ → Bool
is_name bytes = list_any is_zero bytes && is_utf8 (before_zero bytes)

-- the entry's name stands in the strings
abbrev pub is_named : List ℕ → SymbolEntry → Bool
is_named names entry = is_name (drop entry.name names)

-- a symbol: its name, its first address, and how many bytes it has
pub record Symbol : Type 0 where
  pub name : List ℕ
  pub start : ℕ
  pub size : ℕ

-- an entry with its name from the strings
abbrev pub symbol_of : List ℕ → SymbolEntry → Symbol
symbol_of names entry = record { name = before_zero (drop entry.name names); start = entry.start; size = entry.size }

-- the symbols, in the order of the file
abbrev pub symbols : List ℕ → List Symbol
symbols bytes = map (symbol_of (strings bytes)) (entries bytes)
