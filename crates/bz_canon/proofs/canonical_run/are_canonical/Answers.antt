use Rattle.std.proofs.Common.{ℕ, List, ◌+◌, ◌-◌, length, subst, arith}
use Rattle.std.proofs.lemmas.List.{take_rest}
use Rattle.bz_canon.specs.CanonicalRun.{AreCanonical}
use Rattle.bz_canon.proofs.ShownLemmas.{joined}
use Rattle.bz_canon.proofs.canonical_run.are_canonical.Goals as goal

pub loop-place-preserved : goal.loop-place-preserved
loop-place-preserved c =
    let text = c.args.text.now in
    let place = c.loop-place.place in
    let more = subst (λ (t : List ℕ). AreCanonical t 32) (take_rest text place) (c.shows_canonical.ensures c.if-not-shows_canonical.false) in
    record {
      within = omega arith;
      shown = λ _. subst (AreCanonical text) {x = place + 32} {y = place + 30 + 2} (omega arith) (joined text place place c.loop-place.invariant.shown (omega arith) more);
    }

pub returns : goal.returns
returns c all =
    let text = c.args.text.now in
    let from = length text - 32 in
    let more = subst (λ (t : List ℕ). AreCanonical t 32) (take_rest text from) (c.shows_canonical-2.ensures all) in
    subst (AreCanonical text) {x = from + 32} {y = length text} (omega (arith, c.requires))
    (joined text from c.loop-place.place c.loop-place.invariant.shown (omega (arith, c.loop-place-test.false)) more)
