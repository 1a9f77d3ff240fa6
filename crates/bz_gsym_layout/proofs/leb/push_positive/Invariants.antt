use Rattle.std.proofs.Common.{pos, ◌++◌}
use Rattle.bz_gsym_layout.specs.Leb.{positive_within, sleb}
use Rattle.bz_gsym_layout.proofs.WriteLemmas.{IsLeft}
use Rattle.bz_gsym_layout.proofs.leb.push_positive.Given as goal

-- what is written, and what is still to be written
abbrev pub invariant-loop-rest : goal.invariant-loop-rest
invariant-loop-rest l = IsLeft 2 positive_within l.out.items l.rest (l.fn.out.items ++ sleb (pos l.number))

abbrev pub decreases-loop-rest : goal.decreases-loop-rest
decreases-loop-rest l = l.rest
