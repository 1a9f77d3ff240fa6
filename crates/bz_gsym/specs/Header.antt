-- The head of a GSYM file of version 1, as LLVM's documentation of its header has it
-- (llvm::gsym::Header).
use Rattle.std.specs.Prelude.{ℕ, List, take, drop}
use Rattle.bz_base.specs.Little.{number_at}
use Rattle.bz_gsym.specs.declared.types.Header.{Header}

-- the number that each file begins with (its bytes read MYSG), and the one version
abbrev pub gsym_magic : ℕ
gsym_magic = 1196644685

abbrev pub gsym_version : ℕ
gsym_version = 1

-- how many bytes there are for the build id, at the end of the head
abbrev pub gsym_max_uuid_size : ℕ
gsym_max_uuid_size = 20

-- the head: each field at its place, with its width in bytes
abbrev pub header_of : List ℕ → Header
header_of bytes = record {
  magic = number_at 4 bytes 0;
  version = number_at 2 bytes 4;
  addr_off_size = number_at 1 bytes 6;
  uuid_size = number_at 1 bytes 7;
  base_address = number_at 8 bytes 8;
  num_addrs = number_at 4 bytes 16;
  strtab_offset = number_at 4 bytes 20;
  strtab_size = number_at 4 bytes 24;
  uuid = take gsym_max_uuid_size (drop 28 bytes);
}
