use Rattle.bz_symbolize.proofs.AlikeLemmas.{alone_of}
use Rattle.bz_symbolize.proofs.laws.entries_stand_alone.Goals as goal

pub returns : goal.returns
returns c source = alone_of source
