use Rattle.std.proofs.Common.{length}
use Rattle.bz_symq.proofs.OutputLemmas.{HasWritten}
use Rattle.bz_symq.proofs.output.write_all.Given as goal

-- a front is written, and the rest is left
abbrev pub invariant-loop-rest : goal.invariant-loop-rest
invariant-loop-rest g l = HasWritten g.W.TextOut l.text l.rest l.initial.output l.output

abbrev pub decreases-loop-rest : goal.decreases-loop-rest
decreases-loop-rest g l = length l.rest
