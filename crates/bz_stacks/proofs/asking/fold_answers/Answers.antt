use Rattle.std.proofs.Common.{◌≡◌, ◌+◌, ℕ, List, length, map, take, drop, subst, ap, ◌∙◌, arith}
use Rattle.std.specs.Prelude.{IfOk, slice_range}
use Rattle.bz_base.specs.Answer.{reading}
use Rattle.bz_stacks.specs.Folding.{Folding}
use Rattle.bz_stacks.proofs.FoldLemmas.{addrs_more, own_answers, side_end, side_more}
use Rattle.bz_stacks.proofs.asking.fold_answers.Goals as goal

-- one stack more was added
pub loop-stack-preserved : goal.loop-stack-preserved
loop-stack-preserved c =
    let so_far = c.loop-stack.invariant in
    let stack = c.stack-item.result in
    let more = addrs_more c.args.stacks.now c.loop-stack.stack-index stack c.loop-stack-test.true c.stack-item.is in
    let count : length c.addrs.result.now ≡ length stack.addrs = ap length c.addrs.ensures in
    let added = c.in_ok-add.ensures.ok in
    let answers = map reading c.args.answers.now in
    let from = c.loop-stack.from in
    let own = map reading (slice_range c.args.answers.now from (from + length c.addrs.result.now)) in
    let are : own ≡ take (length stack.addrs) (drop from answers) = own_answers reading c.args.answers.now from (length c.addrs.result.now) ∙ ap (λ (n : ℕ). take n (drop from answers)) count in
    record {
      count = ap (λ (f : Folding). f.stacks) added ∙ ap (λ (n : ℕ). n + 1) so_far.count;
      left = omega arith;
      sums = rw count (side_more c.args.stacks.now c.loop-stack.stack-index stack c.loop-stack-test.true c.stack-item.is answers from own c.loop-stack.folded c.add.new.self are added ∙ so_far.sums);
    }

-- no stack is left
pub returns-clause-ok : goal.returns-clause-ok
returns-clause-ok c =
    subst (λ (all : List ℕ). IfOk c.text.result (λ text. text.items ≡ all))
    (side_end c.args.stacks.now (map reading c.args.answers.now) c.loop-stack.stack-index c.loop-stack.from c.loop-stack.folded c.loop-stack-test.false c.loop-stack.invariant.sums) c.text.ensures.ok
