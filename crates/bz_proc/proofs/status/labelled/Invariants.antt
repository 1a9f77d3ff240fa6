use Rattle.std.proofs.Common.{◌≡◌, length}
use Rattle.bz_proc.specs.Status.{labelled}
use Rattle.bz_proc.proofs.status.labelled.Given as goal

-- no line so far begins with the label
abbrev pub invariant-loop-line : goal.invariant-loop-line
invariant-loop-line l = labelled l.rest ≡ labelled l.status

abbrev pub decreases-loop-line : goal.decreases-loop-line
decreases-loop-line l = length l.rest
