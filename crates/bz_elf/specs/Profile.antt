-- Which bytes are taken as ELF files, as a relation.
use Rattle.std.specs.Prelude.{◌≡◌, ◌≢◌, ◌⊎◌, ℕ, ◌+◌, ◌*◌, ◌%◌, ◌≤◌, List, length, Some, slice_get}
use Rattle.bz_base.specs.ZeroEnded.{IsString}
use Rattle.bz_base.specs.Little.{number_at}
use Rattle.bz_elf.specs.Checks.{pn_xnum}
use Rattle.bz_elf.specs.Head.{elfmag, ei_class, elfclass64, ei_data, elfdata2lsb, identity_len, head_len, program_place, program_size, program_count, section_place, section_size, section_count}
use Rattle.bz_elf.specs.Sections.{section_header_len, string_table, strings, symbol_table}
use Rattle.bz_elf.specs.Segments.{program_header_len}
use Rattle.bz_elf.specs.Symbols.{entries, symbol_len}
use Rattle.bz_elf.specs.declared.types.Section.{Section}
use Rattle.bz_elf.specs.declared.types.SymbolEntry.{SymbolEntry}

-- the program headers' count is told, they have their size, and lie in the bytes
pub record HaveProgramHeaders (bytes : List ℕ) : Type 0 where
  pub told : program_count bytes ≢ pn_xnum
  pub size : program_size bytes ≡ program_header_len
  pub within : program_place bytes + program_count bytes * program_header_len ≤ length bytes

-- the section headers have their size, and lie in the bytes
pub record HaveSections (bytes : List ℕ) : Type 0 where
  pub size : section_size bytes ≡ section_header_len
  pub within : section_place bytes + section_count bytes * section_header_len ≤ length bytes

-- the section lies in the bytes
abbrev pub SectionLies : List ℕ → Section → Type 0
SectionLies bytes section = section.offset + section.size ≤ length bytes

-- and is entries of a symbol table side by side
pub record HasEntries (bytes : List ℕ) (table : Section) : Type 0 where
  pub within : SectionLies bytes table
  pub entry_size : table.entry_size ≡ symbol_len
  pub whole : table.size % symbol_len ≡ 0

-- the bytes are a little-endian ELF file of 64 bits. Its program headers, section headers and symbol
-- table lie in the bytes, where there are any, and so do its strings. Each symbol that counts has a
-- name there
pub record IsElf (bytes : List ℕ) : Type 0 where
  pub identity : identity_len ≤ length bytes
  pub magic : number_at 4 bytes 0 ≡ elfmag
  pub class : number_at 1 bytes ei_class ≡ elfclass64
  pub order : number_at 1 bytes ei_data ≡ elfdata2lsb
  pub head : head_len ≤ length bytes
  pub program_headers : (program_count bytes ≡ 0) ⊎ HaveProgramHeaders bytes
  pub sections : ((section_count bytes ≡ 0) × (section_place bytes ≡ 0)) ⊎ ((section_count bytes ≢ 0) × HaveSections bytes)
  pub own_symbols : (table : Section) → symbol_table bytes ≡ Some table → HasEntries bytes table
  pub own_strings : (table : Section) → symbol_table bytes ≡ Some table → (section : Section) × (string_table bytes table ≡ Some section) × SectionLies bytes section
  pub names : (index : ℕ) (symbol : SymbolEntry) → slice_get (entries bytes) index ≡ Some symbol → (name : List ℕ) × IsString (strings bytes) symbol.name name
