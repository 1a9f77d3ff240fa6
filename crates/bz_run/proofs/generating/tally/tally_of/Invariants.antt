use Rattle.bz_run.proofs.TallyLemmas.{TalliedSoFar}
use Rattle.bz_run.proofs.generating.tally.tally_of.Given as goal

-- the answers so far are counted
abbrev pub invariant-loop-index : goal.invariant-loop-index
invariant-loop-index l = TalliedSoFar l.lookups.answers l.tally l.index
