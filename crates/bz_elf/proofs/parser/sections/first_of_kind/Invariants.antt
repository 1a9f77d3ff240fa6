use Rattle.std.proofs.Common.{◌≡◌}
use Rattle.bz_elf.specs.Head.{section_count, section_place}
use Rattle.bz_elf.specs.Sections.{first_of_kind, is_kind, section_at, section_header_len}
use Rattle.bz_elf.proofs.PlaceLemmas.{found_from}
use Rattle.bz_elf.proofs.parser.sections.first_of_kind.Given as goal

-- none of the sections so far is of the type
abbrev pub invariant-loop-index : goal.invariant-loop-index
invariant-loop-index l =
    found_from (section_at l.bytes) (section_place l.bytes) section_header_len (is_kind l.kind) l.index (section_count l.bytes) ≡ first_of_kind l.kind l.bytes
