use Rattle.bz_base.specs.Answer.{reading}
use Rattle.bz_lookups.proofs.BatchLemmas.{answer_there}
use Rattle.bz_symq.proofs.TextsLemmas.{entry_put}
use Rattle.bz_symq.proofs.texts.push_entry.Goals as goal

-- the answer that was put is the batch's at the index
pub returns-clause-ok : goal.returns-clause-ok
returns-clause-ok c =
    let there = answer_there c.args.lookups.now c.args.index c.requires in
    entry_put c.args.lookups.now c.args.index (reading c.in_ok-answer.answer) _ _ c.push_answer.result
    (rw c.in_ok-answer.ensures.answer there) (rw c.addr.ensures at c.push_answer.ensures.ok)
