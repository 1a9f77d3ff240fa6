use Rattle.bz_process.proofs.ReachLemmas.{changes_coherent, reached_coherent}
use Rattle.bz_process.proofs.laws.looks_stay_coherent.Goals as goal

pub returns-clause-changes : goal.returns-clause-changes
returns-clause-changes c own worlds world changes kept agree has told coherent = changes_coherent own worlds agree world has changes kept told coherent

pub returns-clause-calls : goal.returns-clause-calls
returns-clause-calls c own worlds world old now agree has reached coherent = reached_coherent own worlds agree world has old now reached coherent
