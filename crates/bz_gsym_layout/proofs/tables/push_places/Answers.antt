use Rattle.std.proofs.Common.{refl, arith}
use Rattle.bz_gsym_layout.specs.Layout.{word}
use Rattle.bz_gsym_layout.proofs.LoopLemmas.{flat_end, flat_turn}
use Rattle.bz_gsym_layout.proofs.tables.push_places.Goals as goal

pub loop-place-init : goal.loop-place-init
loop-place-init c = refl

pub loop-place-preserved : goal.loop-place-preserved
loop-place-preserved c =
    let s = c.loop-place in
    flat_turn (word 4) c.args.places.now s.place-index s.out.items _ s.invariant 0 c.loop-place-test.true c.push_low_word.new.out.items c.in_ok-push_low_word.ensures.ok

pub returns-clause-ok : goal.returns-clause-ok
returns-clause-ok c =
    let s = c.loop-place in
    flat_end (word 4) c.args.places.now s.place-index s.out.items _ s.invariant (omega (arith, c.loop-place-test.false))
