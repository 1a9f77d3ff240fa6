use Rattle.std.proofs.Common.{◌≡◌, length}
use Rattle.bz_breakpad_lines.specs.Reads.{many_at, reads}
use Rattle.bz_breakpad_lines.specs.Records.{RANGE}
use Rattle.bz_breakpad_lines.specs.Told.{ranges_told}
use Rattle.bz_breakpad_lines.proofs.Kept.{kept_then}
use Rattle.bz_breakpad_lines.proofs.record.read_ranges.Given as goal

-- what is kept, and what the rest tells, is what the whole tells
abbrev pub invariant-loop-range : goal.invariant-loop-range
invariant-loop-range l = kept_then (ranges_told l.ranges.items) (many_at (reads RANGE) l.rest) ≡ many_at (reads RANGE) l.text

abbrev pub decreases-loop-range : goal.decreases-loop-range
decreases-loop-range l = length l.rest
