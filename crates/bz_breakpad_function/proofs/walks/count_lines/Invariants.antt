use Rattle.std.proofs.Common.{◌≡◌, ◌+◌, ◌≤◌, length}
use Rattle.bz_base.specs.Line.{all_lines}
use Rattle.bz_breakpad_function.proofs.walks.count_lines.Given as goal

-- the lines so far, and then those of the rest; each has a byte at least
abbrev pub invariant-loop-line : goal.invariant-loop-line
invariant-loop-line l = record {
  counted : l.count + length (all_lines l.rest) ≡ length (all_lines l.text);
  few : l.count + length l.rest ≤ length l.text;
}

-- it gets shorter
abbrev pub decreases-loop-line : goal.decreases-loop-line
decreases-loop-line l = length l.rest
