use Rattle.std.proofs.Common.{◌≡◌, length, rules}
use Rattle.bz_lookups.proofs.TogetherLemmas.{puts_none, puts_one}
use Rattle.bz_lookups.proofs.lookups.Lookups.answer_some.Goals as goal

-- all are lent
pub loop-answer-init : goal.loop-answer-init
loop-answer-init c = puts_none c.args.self.now c.args.indices.now c.args.answers.now.items c.in_ok-lent.lent.items c.in_ok-lent.ensures.answers

-- the last one is put
pub loop-answer-preserved-in_ok-answers : goal.loop-answer-preserved-in_ok-answers
loop-answer-preserved-in_ok-answers c =
    let last : c.len.result ≡ length c.pop.new.self.items = search rules in
    rw last (puts_one c.args.self.now c.args.indices.now c.args.answers.now.items c.loop-answer.answers.items c.loop-answer.lent.items c.pop.new.self.items c.in-Some.answer c.in_ok-answers.field-0
    c.in-Some.ensures.items c.requires.room c.in_ok-answers.ensures.same c.loop-answer.invariant)

pub loop-answer-preserved : goal.loop-answer-preserved
loop-answer-preserved c =
    let last : c.len.result ≡ length c.pop.new.self.items = search rules in
    rw last (puts_one c.args.self.now c.args.indices.now c.args.answers.now.items c.loop-answer.answers.items c.loop-answer.lent.items c.pop.new.self.items c.in-Some.answer c.in_ok-answers.field-0
    c.in-Some.ensures.items c.requires.room c.in_ok-answers.ensures.same c.loop-answer.invariant)
