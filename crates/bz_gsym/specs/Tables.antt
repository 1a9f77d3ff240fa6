-- The tables of a GSYM file of version 1, one after another behind its head, and which bytes are such a
-- file. After LLVM's documentation of the format (llvm::gsym::GsymReader).
use Rattle.std.specs.Prelude.{◌≡◌, ℕ, ◌+◌, ◌-◌, ◌*◌, ◌≤◌, ◌==◌, ◌&&◌, ◌||◌, nat_le, Bool, true, if◌then◌else◌, List, [], ◌∷◌, length, map, take, drop, Option, Some, None, option_and_then, slice_get}
use Rattle.std.specs.List.{list_all, range_with_len}
use Rattle.bz_base.specs.Cursor.{padding}
use Rattle.bz_base.specs.Little.{number_at, numbers_at}
use Rattle.bz_base.specs.Span.{fitting}
use Rattle.bz_base.specs.Starts.{IsFound, NeverDescends}
use Rattle.bz_gsym.specs.Header.{gsym_magic, gsym_version, header_of}
use Rattle.bz_gsym.specs.declared.types.FileInfo.{FileInfo}
use Rattle.bz_gsym.specs.declared.types.Header.{Header}

-- the head has so many bytes, and the address table follows
abbrev pub header_len : ℕ
header_len = 48

-- how many bytes a data place has, and the count of files
abbrev pub data_place_len : ℕ
data_place_len = 4

abbrev pub file_count_len : ℕ
file_count_len = 4

-- how many bytes an entry of the file table has: the places of a directory and of a name
abbrev pub file_entry_len : ℕ
file_entry_len = 8

-- the sizes that an entry of the address table may have, in bytes
abbrev pub is_address_size : ℕ → Bool
is_address_size size = size == 1 || (size == 2 || (size == 4 || size == 8))

-- the place behind the address table
abbrev pub addresses_end : Header → ℕ
addresses_end h = header_len + h.num_addrs * h.addr_off_size

-- the table of data places begins at the next place that is divisible by 4
abbrev pub data_table : Header → ℕ
data_table h = addresses_end h + padding (addresses_end h)

-- then comes the count of files
abbrev pub file_count_place : Header → ℕ
file_count_place h = data_table h + h.num_addrs * data_place_len

-- and then the files
abbrev pub file_table : Header → ℕ
file_table h = file_count_place h + file_count_len

abbrev pub file_count : List ℕ → ℕ
file_count bytes = number_at file_count_len bytes (file_count_place (header_of bytes))

-- the place behind the files
abbrev pub files_end : List ℕ → ℕ
files_end bytes = file_table (header_of bytes) + file_count bytes * file_entry_len

-- the place behind the string table
abbrev pub strings_end : Header → ℕ
strings_end h = h.strtab_offset + h.strtab_size

-- the starts of the symbols, relative to the base address; none where the size of an entry isn't one
-- that it may have
abbrev pub starts : List ℕ → List ℕ
starts bytes =
    let h : Header = header_of bytes in
    if is_address_size h.addr_off_size then numbers_at h.addr_off_size h.num_addrs bytes header_len else []

-- for each symbol the place of its data
abbrev pub data_places : List ℕ → List ℕ
data_places bytes = let h : Header = header_of bytes in numbers_at data_place_len h.num_addrs bytes (data_table h)

-- a file at a place: where its directory and its name begin in the string table
abbrev pub file_at : List ℕ → ℕ → FileInfo
file_at bytes place = record { directory = number_at 4 bytes place; filename = number_at 4 bytes (place + 4) }

-- the source files
abbrev pub files : List ℕ → List FileInfo
files bytes = map (λ i. file_at bytes (file_table (header_of bytes) + i * file_entry_len)) (range_with_len 0 (file_count bytes))

-- the string table
abbrev pub strings : List ℕ → List ℕ
strings bytes = let h : Header = header_of bytes in take h.strtab_size (drop h.strtab_offset bytes)

-- so many starts of a size that they may have lie in the bytes, and never descend
pub record AreStarts (bytes : List ℕ) (size count : ℕ) : Type 0 where
  pub allowed : is_address_size size ≡ true
  pub within : header_len + count * size ≤ length bytes
  pub ascend : NeverDescends (numbers_at size count bytes header_len)

-- the bytes are a GSYM file: the files, and so each table before them, end in the bytes, as the string
-- table does. The starts never descend
pub record IsGsym (bytes : List ℕ) : Type 0 where
  pub magic : (header_of bytes).magic ≡ gsym_magic
  pub version : (header_of bytes).version ≡ gsym_version
  pub tables : files_end bytes ≤ length bytes
  pub strings : strings_end (header_of bytes) ≤ length bytes
  pub ascend : NeverDescends (starts bytes)

-- and this is its head
pub record IsHeaded (bytes : List ℕ) (header : Header) : Type 0 where
  pub head : header ≡ header_of bytes
  pub formed : IsGsym bytes

-- whether no number is below one before it
abbrev pub never_descends : List ℕ → Bool
never_descends [] = true
never_descends (x ∷ xs) = list_all (nat_le x) xs && never_descends xs

-- whether the bytes are a GSYM file, as a test
abbrev pub is_gsym : List ℕ → Bool
is_gsym bytes =
    let h : Header = header_of bytes in
    (h.magic == gsym_magic && h.version == gsym_version) && ((nat_le (files_end bytes) (length bytes) && nat_le (strings_end h) (length bytes)) && never_descends (starts bytes))

-- the symbol of this index, at this address, is to be tried at an address that doesn't lie below the
-- base address. Its start is the first one that equals the distance from the base, or else the last one
-- below it
pub record IsTried (bytes : List ℕ) (addr index at : ℕ) : Type 0 where
  pub start : ℕ
  pub from : (header_of bytes).base_address ≤ addr
  pub at_is : at ≡ (header_of bytes).base_address + start
  pub found : IsFound (starts bytes) (addr - (header_of bytes).base_address) (Some (index, start))

-- index and address of the symbol that is to be tried; or there is none
abbrev pub IsNearest : List ℕ → ℕ → Option (ℕ × ℕ) → Type 0
IsNearest bytes addr None =
    (header_of bytes).base_address ≤ addr → IsFound (starts bytes) (addr - (header_of bytes).base_address) None
IsNearest bytes addr (Some symbol) = IsTried bytes addr symbol.0 symbol.1

-- the index of that symbol
abbrev pub IsIndex : List ℕ → ℕ → Option ℕ → Type 0
IsIndex bytes addr None = IsNearest bytes addr None
IsIndex bytes addr (Some index) = (at : ℕ) × IsTried bytes addr index at

-- the address of a symbol: base address plus start, if that fits 64 bits
abbrev pub address_at : List ℕ → ℕ → Option ℕ
address_at bytes index = option_and_then (λ start. fitting ((header_of bytes).base_address + start)) (slice_get (starts bytes) index)
