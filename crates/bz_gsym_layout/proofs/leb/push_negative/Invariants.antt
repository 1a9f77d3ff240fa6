use Rattle.std.proofs.Common.{negsuc, ◌++◌}
use Rattle.bz_gsym_layout.specs.Leb.{negative_within, sleb}
use Rattle.bz_gsym_layout.proofs.WriteLemmas.{IsLeft}
use Rattle.bz_gsym_layout.proofs.leb.push_negative.Given as goal

-- what is written, and what is still to be written
abbrev pub invariant-loop-rest : goal.invariant-loop-rest
invariant-loop-rest l = IsLeft 2 negative_within l.out.items l.rest (l.fn.out.items ++ sleb (negsuc l.below))

abbrev pub decreases-loop-rest : goal.decreases-loop-rest
decreases-loop-rest l = l.rest
