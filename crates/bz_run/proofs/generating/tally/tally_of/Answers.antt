use Rattle.std.proofs.Common.{◌≡◌, ◌<◌, length, Some, arith}
use Rattle.std.specs.List.{slice_get}
use Rattle.bz_base.specs.Answer.{reading}
use Rattle.bz_symq.proofs.BatchLemmas.{answer_there}
use Rattle.bz_run.proofs.TallyLemmas.{none_tallied, one_more, one_more_fits}
use Rattle.bz_run.proofs.generating.tally.tally_of.Goals as goal

-- none is counted
pub loop-index-init : goal.loop-index-init
loop-index-init c = none_tallied c.args.lookups.now.answers

-- one more is
pub with-tally-requires : goal.with-tally-requires
with-tally-requires c =
    let lookups = c.args.lookups.now in
    let within : c.loop-index.index < length lookups.addrs = omega (arith, c.loop-index-test.true, c.len-index-end.ensures) in
    let there : slice_get lookups.answers c.loop-index.index ≡ Some (reading c.in_ok-answer.answer) = rw c.in_ok-answer.ensures.answer (answer_there lookups c.loop-index.index within) in
    one_more_fits lookups.answers c.loop-index.tally c.loop-index.index c.loop-index.invariant (reading c.in_ok-answer.answer) there c.requires

pub loop-index-preserved : goal.loop-index-preserved
loop-index-preserved c =
    let lookups = c.args.lookups.now in
    let within : c.loop-index.index < length lookups.addrs = omega (arith, c.loop-index-test.true, c.len-index-end.ensures) in
    let there : slice_get lookups.answers c.loop-index.index ≡ Some (reading c.in_ok-answer.answer) = rw c.in_ok-answer.ensures.answer (answer_there lookups c.loop-index.index within) in
    rw c.with-tally.ensures (one_more lookups.answers c.loop-index.tally c.loop-index.index c.loop-index.invariant (reading c.in_ok-answer.answer) there)
