use Rattle.bz_symbolize.proofs.AlikeLemmas.{folded_of}
use Rattle.bz_symbolize.proofs.laws.batches_fold_refusals.Goals as goal

pub returns : goal.returns
returns c source = folded_of source
