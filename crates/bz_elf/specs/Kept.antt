-- What is kept of an ELF file beside its bytes.
use Rattle.std.specs.Prelude.{◌≡◌, ◌+◌, ◌*◌, ◌<◌, ◌≤◌, ℕ, List, length, None}
use Rattle.bz_base.specs.Nearest.{IsTable}
use Rattle.bz_elf.specs.Format.{format_test}
use Rattle.bz_elf.specs.Head.{head_len, program_count, program_place, section_count, section_place}
use Rattle.bz_elf.specs.Parts.{bytes_at, places}
use Rattle.bz_elf.specs.Sections.{section_header_len, strings, symbol_table}
use Rattle.bz_elf.specs.Segments.{program_header_len, segments}
use Rattle.bz_elf.specs.Symbols.{entries, places_of, symbol_len}
use Rattle.bz_elf.specs.declared.types.KeptFile.{KeptFile}
use Rattle.bz_elf.specs.declared.types.Part.{Part}
use Rattle.bz_elf.specs.declared.types.SymbolTable.{SymbolTable}

-- the head lies in the bytes, and so do the program headers and the section headers, where there are
-- any
pub record TablesLie (bytes : List ℕ) : Type 0 where
  pub head : head_len ≤ length bytes
  pub program_headers : 0 < program_count bytes → program_place bytes + program_count bytes * program_header_len ≤ length bytes
  pub section_headers : 0 < section_count bytes → section_place bytes + section_count bytes * section_header_len ≤ length bytes

-- the part lies in the bytes
abbrev pub IsPart : List ℕ → Part → Type 0
IsPart bytes p = p.offset + p.size ≤ length bytes

-- the strings lie in the part
pub record AreStrings (bytes : List ℕ) (p : Part) : Type 0 where
  pub within : IsPart bytes p
  pub are : strings bytes ≡ bytes_at bytes p.offset p.size

-- the symbol table's entries lie there, and its strings
pub record IsSymbolTable (bytes : List ℕ) (table : SymbolTable) : Type 0 where
  pub within : table.offset + table.count * symbol_len ≤ length bytes
  pub places_are : places_of (symbol_table bytes) ≡ places table.offset symbol_len table.count
  pub strings_are : AreStrings bytes table.strings

-- the bytes are an ELF file, and its strings lie in the part. The symbols that count stand in the order
-- of start and size, and the load segments in that of the file
pub record IsKept (bytes : List ℕ) (kept : KeptFile) : Type 0 where
  pub formed : format_test bytes ≡ None
  pub strings_are : AreStrings bytes kept.strings
  pub count : length kept.symbols.items ≡ length (entries bytes)
  pub symbols_are : IsTable (λ s. s.start) (λ s. s.size) (entries bytes) kept.symbols.items
  pub segments_are : kept.segments.items ≡ segments bytes
