-- The head of a little-endian ELF file of 64 bits: Elf64_Ehdr of the System V gABI, chapter 4.
use Rattle.std.specs.Prelude.{ℕ, List}
use Rattle.bz_base.specs.Little.{number_at}

-- what e_ident begins with: its bytes read 7f, E, L, F
abbrev pub elfmag : ℕ
elfmag = 1179403647

-- the place of the class, and the class of files of 64 bits
abbrev pub ei_class : ℕ
ei_class = 4

abbrev pub elfclass64 : ℕ
elfclass64 = 2

-- the place of the order of bytes, and the order of little-endian files
abbrev pub ei_data : ℕ
ei_data = 5

abbrev pub elfdata2lsb : ℕ
elfdata2lsb = 1

-- so many bytes hold magic number, class and order of bytes
abbrev pub identity_len : ℕ
identity_len = 6

-- so many bytes are the head
abbrev pub head_len : ℕ
head_len = 64

-- where the program headers begin, the size of one, and how many they are: e_phoff, e_phentsize,
-- e_phnum
abbrev pub program_place : List ℕ → ℕ
program_place bytes = number_at 8 bytes 32

abbrev pub program_size : List ℕ → ℕ
program_size bytes = number_at 2 bytes 54

abbrev pub program_count : List ℕ → ℕ
program_count bytes = number_at 2 bytes 56

-- where the section headers begin, the size of one, and how many they are: e_shoff, e_shentsize,
-- e_shnum
abbrev pub section_place : List ℕ → ℕ
section_place bytes = number_at 8 bytes 40

abbrev pub section_size : List ℕ → ℕ
section_size bytes = number_at 2 bytes 58

abbrev pub section_count : List ℕ → ℕ
section_count bytes = number_at 2 bytes 60
