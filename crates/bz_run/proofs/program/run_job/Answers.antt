use Rattle.bz_run.proofs.program.run_job.Goals as goal

-- a batch is that of the words
pub returns-in-Batch : goal.returns-in-Batch
returns-in-Batch g c = rw c.in-Batch.is (rw c.asked_batch-batch.ensures at c.run_batch.ensures)

-- a product is made under any settings
pub returns-in-Make : goal.returns-in-Make
returns-in-Make g c = rw c.in-Make.is (c.make.ensures c.args.config)
