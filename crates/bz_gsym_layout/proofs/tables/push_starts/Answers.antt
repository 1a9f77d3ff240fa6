use Rattle.std.proofs.Common.{refl, ap, ◌∙◌, ◌++◌, arith}
use Rattle.bz_gsym_layout.specs.Layout.{word}
use Rattle.bz_gsym_layout.specs.declared.plan.Function.{Function}
use Rattle.bz_gsym_layout.proofs.LoopLemmas.{flat_end, flat_turn}
use Rattle.bz_gsym_layout.proofs.tables.push_starts.Goals as goal

pub loop-function-init : goal.loop-function-init
loop-function-init c = refl

pub loop-function-preserved : goal.loop-function-preserved
loop-function-preserved c =
    let s = c.loop-function in
    let x = c.function-item.result in
    flat_turn (λ (f : Function). word 8 f.start) c.args.functions.now s.function-index s.out.items _ s.invariant x c.loop-function-test.true c.push_long.new.out.items
    (c.in_ok-push_long.ensures.ok ∙ ap (λ (f : Function). s.out.items ++ word 8 f.start) c.function-item.is)

pub returns-clause-ok : goal.returns-clause-ok
returns-clause-ok c =
    let s = c.loop-function in
    flat_end (λ (f : Function). word 8 f.start) c.args.functions.now s.function-index s.out.items _ s.invariant (omega (arith, c.loop-function-test.false))
