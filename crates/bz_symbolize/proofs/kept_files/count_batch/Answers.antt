use Rattle.bz_lookups.proofs.BatchLemmas.{all_of_batch}
use Rattle.bz_lookups.specs.Batch.{version_of}
use Rattle.bz_symbolize.proofs.kept_files.count_batch.Goals as goal

-- the answers are those of what is held, at the addresses that were copied
pub returns-clause-answers : goal.returns-clause-answers
returns-clause-answers g c =
    all_of_batch (version_of c.args.held) c.args.opts c.in_ok-addrs.addrs.items c.args.addrs.now c.in_ok-lookups.lookups c.owned_answers.result
    c.in_ok-lookups.ensures.batch c.in_ok-addrs.ensures.items c.owned_answers.ensures.answers
