use Rattle.bz_gsym_layout.proofs.HoldsLemmas.{entries_below}
use Rattle.bz_gsym_layout.proofs.laws.entries_are_within.Goals as goal

pub returns : goal.returns
returns c codes i code there = entries_below codes i code there
