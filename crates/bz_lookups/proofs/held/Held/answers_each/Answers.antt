use Rattle.std.proofs.Common.{ℕ, rules}
use Rattle.bz_base.specs.Lent.{IsLent}
use Rattle.bz_lookups.specs.Batch.{entry_by, version_of}
use Rattle.bz_lookups.proofs.BatchLemmas.{all_and_one, one_more}
use Rattle.bz_lookups.proofs.FoundLemmas.{found_there}
use Rattle.bz_lookups.proofs.held.Held.answers_each.Goals as goal

-- the record is the one for the address
pub answer_by-answer-requires : goal.answer_by-answer-requires
answer_by-answer-requires c = rw c.record_at-found.ensures (found_there c.args.addrs.now c.args.records.now c.loop-index.index (search rules) (version_of c.args.self.now) c.requires.found)

-- the answer that is pushed is the one at the next address
pub loop-index-preserved : goal.loop-index-preserved
loop-index-preserved c =
    let entry = λ (addr : ℕ). entry_by (version_of c.args.self.now) c.args.opts.now addr in
    let so_far = c.loop-index.invariant in
    record {
      answers = rw c.in_ok-push.ensures.items (one_more entry c.args.addrs.now c.loop-index.index c.loop-index.answers.items c.in_ok-in_batch.field-0 (search rules) so_far.answers
          (c.in_ok-in_batch.ensures.entry _ c.answer_by-answer.ensures.answer));
      lent = rw c.in_ok-push.ensures.items (all_and_one IsLent c.loop-index.answers.items c.in_ok-in_batch.field-0 so_far.lent (c.in_ok-in_batch.ensures.lent c.answer_by-answer.ensures.lent));
    }
