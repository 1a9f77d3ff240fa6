use Rattle.std.proofs.Common.{◌≡◌, ◌+◌, ◌≤◌, length}
use Rattle.bz_base.specs.Line.{all_lines}
use Rattle.bz_breakpad_table.specs.Admitted.{at_front, refused_from}
use Rattle.bz_breakpad_table.specs.Told.{before_told}
use Rattle.bz_breakpad_table.proofs.refused.line_refused.Given as goal

-- the line that is refused of what is left is the one that is refused of all
abbrev pub invariant-loop-line : goal.invariant-loop-line
invariant-loop-line l = record {
  so_far : refused_from (before_told l.before) (l.number + 1) (all_lines l.rest) ≡ refused_from at_front 1 (all_lines l.bytes);
  counted : l.number + length l.rest ≤ length l.bytes;
}

abbrev pub decreases-loop-line : goal.decreases-loop-line
decreases-loop-line l = length l.rest
