use Rattle.std.proofs.Common.{◌≡◌, ◌+◌, ℕ, List, map, subst, ap, ◌∙◌}
use Rattle.std.specs.Prelude.{IfOk}
use Rattle.bz_base.specs.Answer.{reading}
use Rattle.bz_lookups.specs.Batch.{answer_at}
use Rattle.bz_stacks.specs.Folding.{Folding}
use Rattle.bz_stacks.proofs.FoldLemmas.{each_end, each_more}
use Rattle.bz_stacks.proofs.asking.fold_lookups.Goals as goal

-- one stack more was added
pub loop-stack-preserved : goal.loop-stack-preserved
loop-stack-preserved c =
    let so_far = c.loop-stack.invariant in
    let answer = answer_at c.args.lookups.now in
    let are : map reading c.deref.result.now ≡ map answer c.stack-item.result.addrs = ap (map reading) c.deref.ensures.value ∙ c.in_ok-answers.ensures.answers ∙ ap (map answer) c.addrs.ensures in
    record {
      count = ap (λ (f : Folding). f.stacks) c.in_ok-add.ensures.ok ∙ ap (λ (n : ℕ). n + 1) so_far.count;
      sums =
          each_more answer c.args.stacks.now c.loop-stack.stack-index c.stack-item.result (map reading c.deref.result.now) c.loop-stack.folded c.add.new.self c.loop-stack-test.true c.stack-item.is are c.in_ok-add.ensures.ok
          ∙ so_far.sums;
    }

-- no stack is left
pub returns-clause-ok : goal.returns-clause-ok
returns-clause-ok c =
    subst (λ (all : List ℕ). IfOk c.text.result (λ text. text.items ≡ all))
    (each_end (answer_at c.args.lookups.now) c.args.stacks.now c.loop-stack.stack-index c.loop-stack.folded c.loop-stack-test.false c.loop-stack.invariant.sums) c.text.ensures.ok
