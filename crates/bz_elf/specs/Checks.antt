-- What is asked of the bytes of an ELF file, check by check: see the System V gABI, chapters 4 and 5.
use Rattle.std.specs.Prelude.{◌≡◌, ℕ, ◌*◌, ◌%◌, ◌==◌, ◌&&◌, ◌||◌, not, nat_le, Bool, true, false, if◌then◌else◌, List, length, Option, Some, None}
use Rattle.std.specs.List.{list_all}
use Rattle.bz_base.specs.Little.{number_at}
use Rattle.bz_elf.specs.Head.{elfmag, ei_class, elfclass64, ei_data, elfdata2lsb, identity_len, head_len, program_place, program_size, program_count, section_place, section_size, section_count}
use Rattle.bz_elf.specs.Parts.{lies}
use Rattle.bz_elf.specs.Sections.{section_header_len, string_table, strings, symbol_table}
use Rattle.bz_elf.specs.Segments.{program_header_len}
use Rattle.bz_elf.specs.Symbols.{entries, is_named, symbol_len}
use Rattle.bz_elf.specs.declared.types.Section.{Section}

-- the bytes begin as an ELF file: they hold magic number, class and order of bytes, and the magic
-- number is ELF's
unfoldable pub is_elf : List ℕ → Bool
is_elf bytes = nat_le identity_len (length bytes) && number_at 4 bytes 0 == elfmag

-- it is of 64 bits and little-endian
unfoldable pub is_supported : List ℕ → Bool
is_supported bytes = number_at 1 bytes ei_class == elfclass64 && number_at 1 bytes ei_data == elfdata2lsb

-- the head lies in the bytes
unfoldable pub has_head : List ℕ → Bool
has_head bytes = nat_le head_len (length bytes)

-- where more program headers are counted than e_phnum can say, it says this
abbrev pub pn_xnum : ℕ
pn_xnum = 65535

-- there are no program headers; or their count is told, they have their size, and lie in the bytes
unfoldable pub has_program_headers : List ℕ → Bool
has_program_headers bytes =
    program_count bytes == 0
    || (not (program_count bytes == pn_xnum)
    && (program_size bytes == program_header_len && lies bytes (program_place bytes) (program_count bytes * program_header_len)))

-- there are no section headers, and no place is told for them; or they have their size, and lie in the
-- bytes
unfoldable pub has_sections : List ℕ → Bool
has_sections bytes =
    if section_count bytes == 0
    then section_place bytes == 0
    else section_size bytes == section_header_len && lies bytes (section_place bytes) (section_count bytes * section_header_len)

-- the section lies in the bytes
abbrev pub section_lies : List ℕ → Section → Bool
section_lies bytes section = lies bytes section.offset section.size

-- the section lies in the bytes, and is entries of a symbol table side by side
abbrev pub is_symbol_table : List ℕ → Section → Bool
is_symbol_table bytes table = section_lies bytes table && (table.entry_size == symbol_len && table.size % symbol_len == 0)

-- what there is passes the test
abbrev pub if_there : {X : Type 0} → (X → Bool) → Option X → Bool
if_there test None = true
if_there test (Some x) = test x

-- there is something, and it passes the test
abbrev pub is_there : {X : Type 0} → (X → Bool) → Option X → Bool
is_there test None = false
is_there test (Some x) = test x

-- the symbol table, where there is one, lies in the bytes and has entries of their size
unfoldable pub has_symbols : List ℕ → Bool
has_symbols bytes = if_there (is_symbol_table bytes) (symbol_table bytes)

-- its strings are a section, and lie in the bytes
unfoldable pub has_strings : List ℕ → Bool
has_strings bytes = if_there (λ table. is_there (section_lies bytes) (string_table bytes table)) (symbol_table bytes)

-- each symbol that counts has a name
unfoldable pub has_names : List ℕ → Bool
has_names bytes = list_all (is_named (strings bytes)) (entries bytes)

-- the head passes its checks, and so do the places of its tables
pub record PassesHead (bytes : List ℕ) : Type 0 where
  pub elf : is_elf bytes ≡ true
  pub supported : is_supported bytes ≡ true
  pub head : has_head bytes ≡ true
  pub program_headers : has_program_headers bytes ≡ true
  pub sections : has_sections bytes ≡ true
