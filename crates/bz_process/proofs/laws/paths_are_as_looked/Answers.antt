use Rattle.bz_process.proofs.LookedLemmas.{reached_looked}
use Rattle.bz_process.proofs.laws.paths_are_as_looked.Goals as goal

pub returns : goal.returns
returns c own world old now reached = reached_looked world own old now reached
