use Rattle.std.proofs.Common.{◌≡◌, ◌++◌}
use Rattle.bz_elf.specs.Head.{program_count, program_place}
use Rattle.bz_elf.specs.Segments.{loaded_at, program_header_len, segments}
use Rattle.bz_elf.proofs.PlaceLemmas.{picked_from}
use Rattle.bz_elf.proofs.parser.segments.segments.Given as goal

-- what was found, with what is found of the rest, is what is found of all
abbrev pub invariant-loop-index : goal.invariant-loop-index
invariant-loop-index l =
    l.found.items ++ picked_from (loaded_at l.bytes) (program_place l.bytes) program_header_len l.index (program_count l.bytes) ≡ segments l.bytes
