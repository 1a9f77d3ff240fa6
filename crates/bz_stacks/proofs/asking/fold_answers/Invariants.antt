use Rattle.std.proofs.Common.{◌≡◌, ◌+◌, drop, length, map}
use Rattle.bz_base.specs.Answer.{reading}
use Rattle.bz_stacks.specs.Fold.{addrs_of, seen_by}
use Rattle.bz_stacks.specs.Folding.{added_all, nothing_folded}
use Rattle.bz_stacks.proofs.asking.fold_answers.Given as goal

-- what was added and the stacks that are left, with the answers that are left, are all
abbrev pub invariant-loop-stack : goal.invariant-loop-stack
invariant-loop-stack l = record {
  count : l.folded.stacks ≡ l.stack-index;
  left : l.from + length (addrs_of (drop l.stack-index l.stacks)) ≡ length l.answers;
  sums : added_all (seen_by (drop l.stack-index l.stacks) (drop l.from (map reading l.answers))) l.folded ≡ added_all (seen_by l.stacks (map reading l.answers)) nothing_folded;
}
