use Rattle.bz_proc.proofs.NameOrderLemmas.{ties_at_equal}
use Rattle.bz_proc.specs.contracts.maps.EntryPathOrd.TheImpl.Laws.{matches_eq-law}
use Rattle.bz_proc.proofs.laws.path_order_agrees.Goals as goal

pub returns-clause-tie : goal.returns-clause-tie
returns-clause-tie c a b = ties_at_equal _ _ (matches_eq-law a b)
