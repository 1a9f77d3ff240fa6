use Rattle.bz_lookups.proofs.BatchLemmas.{table_batch}
use Rattle.bz_lookups.proofs.held.Held.answers_by.Goals as goal

-- those of a Breakpad file are the batch of its table
pub returns-in-Breakpad-clause-answers : goal.returns-in-Breakpad-clause-answers
returns-in-Breakpad-clause-answers c = rw (c.in-Breakpad.is) (table_batch c.in-Breakpad.file.value c.args.opts.now c.args.addrs.now c.answers_by.result (rw c.as_ref.ensures at c.answers_by.ensures.answers))
