-- The section headers of an ELF file, its symbol table, and the strings that names lie in: see the
-- System V gABI, chapter 4.
use Rattle.std.specs.Prelude.{ℕ, ◌+◌, ◌==◌, Bool, List, [], map, Option, Some, None, option_and_then, slice_get}
use Rattle.std.specs.List.{find}
use Rattle.std.specs.Option.{option_or}
use Rattle.bz_base.specs.Little.{number_at}
use Rattle.bz_elf.specs.Head.{section_place, section_count}
use Rattle.bz_elf.specs.Parts.{bytes_at, places}
use Rattle.bz_elf.specs.declared.types.Section.{Section}

-- the size of a section header, Elf64_Shdr
abbrev pub section_header_len : ℕ
section_header_len = 64

-- the types of sections that hold symbols: all of them, or those for linking at run time
abbrev pub sht_symtab : ℕ
sht_symtab = 2

abbrev pub sht_dynsym : ℕ
sht_dynsym = 11

-- the section header at a place: sh_type at 4, sh_offset at 24, sh_size at 32, sh_link at 40,
-- sh_entsize at 56
abbrev pub section_at : List ℕ → ℕ → Section
section_at bytes place = record {
  kind = number_at 4 bytes (place + 4);
  offset = number_at 8 bytes (place + 24);
  size = number_at 8 bytes (place + 32);
  link = number_at 4 bytes (place + 40);
  entry_size = number_at 8 bytes (place + 56);
}

-- the section headers
abbrev pub sections : List ℕ → List Section
sections bytes = map (section_at bytes) (places (section_place bytes) section_header_len (section_count bytes))

abbrev pub is_kind : ℕ → Section → Bool
is_kind kind section = section.kind == kind

-- the first section of a type
abbrev pub first_of_kind : ℕ → List ℕ → Option Section
first_of_kind kind bytes = find (is_kind kind) (sections bytes)

-- the section that is the symbol table: the first that holds all symbols, else the first that holds
-- those for linking
unfoldable pub symbol_table : List ℕ → Option Section
symbol_table bytes = option_or (first_of_kind sht_symtab bytes) (first_of_kind sht_dynsym bytes)

-- the section of its strings, which it names by an index
unfoldable pub string_table : List ℕ → Section → Option Section
string_table bytes table = slice_get (sections bytes) table.link

abbrev pub bytes_of : List ℕ → Option Section → List ℕ
bytes_of bytes None = []
bytes_of bytes (Some section) = bytes_at bytes section.offset section.size

-- the strings that names lie in
unfoldable pub strings : List ℕ → List ℕ
strings bytes = bytes_of bytes (option_and_then (string_table bytes) (symbol_table bytes))
