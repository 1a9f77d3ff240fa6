use Rattle.std.proofs.Common.{◌<◌, ◌∙◌, length, map, option_map, Some, sym, ap, rules, arith}
use Rattle.std.proofs.lemmas.List.{length-map}
use Rattle.std.proofs.lemmas.Option.{slice_get-get_or, slice_get-map}
use Rattle.bz_base.specs.Answer.{reading}
use Rattle.bz_symq.proofs.TextsLemmas.{answer_of, indices_within}
use Rattle.bz_symq.proofs.texts.Texts.make_some.Goals as goal

-- the indices are of the batch
pub answers_of-requires : goal.answers_of-requires
answers_of-requires c = indices_within c.args.lookups.now _ _ c.args.indices.now c.requires.among

-- the answer at the place is that of its index
pub make_one-requires-clause-answer : goal.make_one-requires-clause-answer
make_one-requires-clause-answer c =
    let batch = c.args.lookups.now in
    let place = c.loop-place.place in
    let answers = c.in_ok-answers.answers.items in
    let more : place < length answers = search rules in
    answer_of batch c.args.indices.now place (map reading answers) c.in_ok-answers.ensures.answers (indices_within batch _ _ c.args.indices.now c.requires.among) (omega (arith, length-map answers reading))
    ∙ slice_get-map reading answers place
    ∙ ap (option_map reading) (slice_get-get_or answers place c.index.result.now more ∙ ap Some (sym c.index.ensures))

pub loop-place-preserved : goal.loop-place-preserved
loop-place-preserved c =
    let so_far = c.loop-place.invariant in
    let more = c.in_ok-make_one.ensures.ok in
    record { texts = λ are. more.texts (so_far.texts are); first = more.first ∙ so_far.first; count = more.count ∙ so_far.count }
