use Rattle.std.proofs.Common.{refl}
use Rattle.bz_proc.proofs.NameOrderLemmas.{ties_at_equal}
use Rattle.bz_proc.specs.contracts.maps.PathNameOrd.TheImpl.Laws.{matches_eq-law}
use Rattle.bz_proc.specs.declared.maps.PathName.TheVariants as names
use Rattle.bz_proc.proofs.laws.name_order_agrees.Goals as goal

pub returns-clause-order : goal.returns-clause-order
returns-clause-order c (names.Path a) (names.Path b) = refl
returns-clause-order c (names.Path a) (names.Component b) = refl
returns-clause-order c (names.Component a) (names.Path b) = refl
returns-clause-order c (names.Component a) (names.Component b) = refl

pub returns-clause-tie : goal.returns-clause-tie
returns-clause-tie c a b = ties_at_equal _ _ (matches_eq-law a b)
