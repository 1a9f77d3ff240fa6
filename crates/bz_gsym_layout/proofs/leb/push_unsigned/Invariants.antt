use Rattle.std.proofs.Common.{◌++◌}
use Rattle.bz_gsym_layout.specs.Leb.{unsigned_within, uleb}
use Rattle.bz_gsym_layout.proofs.WriteLemmas.{IsLeft}
use Rattle.bz_gsym_layout.proofs.leb.push_unsigned.Given as goal

-- what is written, and what is still to be written
abbrev pub invariant-loop-rest : goal.invariant-loop-rest
invariant-loop-rest l = IsLeft 1 unsigned_within l.out.items l.rest (l.fn.out.items ++ uleb l.number)

abbrev pub decreases-loop-rest : goal.decreases-loop-rest
decreases-loop-rest l = l.rest
