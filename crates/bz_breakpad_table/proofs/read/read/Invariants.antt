use Rattle.std.proofs.Common.{length}
use Rattle.bz_breakpad_table.specs.Walked.{IsMidway}
use Rattle.bz_breakpad_table.proofs.read.read.Given as goal

-- what is read of the rest is what is read of the text
abbrev pub invariant-loop-rest : goal.invariant-loop-rest
invariant-loop-rest l = IsMidway l.text l.rest l.walk

abbrev pub decreases-loop-rest : goal.decreases-loop-rest
decreases-loop-rest l = length l.rest
