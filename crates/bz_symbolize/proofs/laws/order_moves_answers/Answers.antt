use Rattle.bz_symbolize.proofs.AlikeLemmas.{alike_of}
use Rattle.bz_symbolize.proofs.laws.order_moves_answers.Goals as goal

pub returns : goal.returns
returns c source = alike_of source
