use Rattle.std.proofs.Common.{◌≡◌, drop}
use Rattle.std.specs.List.{find}
use Rattle.bz_elf.specs.Segments.{holds}
use Rattle.bz_elf.proofs.file.translated.Given as goal

-- none of the segments so far holds the byte
abbrev pub invariant-loop-segment : goal.invariant-loop-segment
invariant-loop-segment l = find (holds l.offset) (drop l.segment-index l.segments) ≡ find (holds l.offset) l.segments
