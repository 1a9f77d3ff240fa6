-- The load segments of an ELF file, and where a byte of the file lies when they are loaded. See the
-- System V gABI, chapter 5.
use Rattle.std.specs.Prelude.{ℕ, ◌+◌, ◌-◌, ◌==◌, ◌&&◌, nat_le, nat_lt, Bool, if◌then◌else◌, List, Option, Some, None, option_and_then}
use Rattle.std.specs.List.{filter_map, find}
use Rattle.bz_base.specs.Little.{number_at}
use Rattle.bz_base.specs.Span.{fitting}
use Rattle.bz_elf.specs.Head.{program_place, program_count}
use Rattle.bz_elf.specs.Parts.{places}
use Rattle.bz_elf.specs.declared.types.Segment.{Segment}

-- the size of a program header, Elf64_Phdr
abbrev pub program_header_len : ℕ
program_header_len = 56

-- the type of a load segment
abbrev pub pt_load : ℕ
pt_load = 1

-- the segment of the program header at a place: p_offset at 8, p_vaddr at 16, p_filesz at 32
abbrev pub segment_at : List ℕ → ℕ → Segment
segment_at bytes place = record {
  offset = number_at 8 bytes (place + 8);
  addr = number_at 8 bytes (place + 16);
  size = number_at 8 bytes (place + 32);
}

-- if p_type, at 0, says that it is a load segment
abbrev pub loaded_at : List ℕ → ℕ → Option Segment
loaded_at bytes place = if number_at 4 bytes place == pt_load then Some (segment_at bytes place) else None

-- the load segments, in the order of the file
unfoldable pub segments : List ℕ → List Segment
segments bytes = filter_map (loaded_at bytes) (places (program_place bytes) program_header_len (program_count bytes))

-- the segment holds the file's byte at an offset
abbrev pub holds : ℕ → Segment → Bool
holds offset segment = nat_le segment.offset offset && nat_lt (offset - segment.offset) segment.size

-- the address at which a segment has the byte at an offset that it holds
abbrev pub addr_in : ℕ → Segment → Option ℕ
addr_in offset segment = fitting (segment.addr + (offset - segment.offset))

-- the address of the byte at an offset, by the first of the segments that holds it
abbrev pub translated : List Segment → ℕ → Option ℕ
translated loaded offset = option_and_then (addr_in offset) (find (holds offset) loaded)
