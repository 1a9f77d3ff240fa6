use Rattle.bz_symbolize.proofs.AlikeLemmas.{handed_alone, handed_alike, handed_folded}
use Rattle.bz_symbolize.proofs.laws.handed_batches_are_alike.Goals as goal

pub returns-clause-alone : goal.returns-clause-alone
returns-clause-alone c source = handed_alone source

pub returns-clause-moved : goal.returns-clause-moved
returns-clause-moved c source = handed_alike source

pub returns-clause-folded : goal.returns-clause-folded
returns-clause-folded c source = handed_folded source
