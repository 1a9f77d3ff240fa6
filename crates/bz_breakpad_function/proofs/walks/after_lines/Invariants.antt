use Rattle.std.proofs.Common.{◌≡◌, drop}
use Rattle.bz_base.specs.Line.{all_lines}
use Rattle.bz_breakpad_function.proofs.walks.after_lines.Given as goal

-- so many lines are passed over
abbrev pub invariant-loop-index : goal.invariant-loop-index
invariant-loop-index l = all_lines l.rest ≡ drop l._index (all_lines l.text)
