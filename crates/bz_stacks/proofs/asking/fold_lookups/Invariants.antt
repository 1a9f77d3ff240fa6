use Rattle.std.proofs.Common.{◌≡◌, drop}
use Rattle.bz_lookups.specs.Batch.{answer_at}
use Rattle.bz_stacks.specs.Folding.{added_all, nothing_folded}
use Rattle.bz_stacks.proofs.FoldLemmas.{seen_each}
use Rattle.bz_stacks.proofs.asking.fold_lookups.Given as goal

-- what was added and the stacks that are left are all
abbrev pub invariant-loop-stack : goal.invariant-loop-stack
invariant-loop-stack l = record {
  count : l.folded.stacks ≡ l.stack-index;
  sums : added_all (seen_each (answer_at l.lookups) (drop l.stack-index l.stacks)) l.folded ≡ added_all (seen_each (answer_at l.lookups) l.stacks) nothing_folded;
}
