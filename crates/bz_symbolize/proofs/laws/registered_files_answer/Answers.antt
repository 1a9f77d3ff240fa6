use Rattle.bz_symbolize.proofs.RegistrationLemmas.{stays_registered}
use Rattle.bz_symbolize.proofs.laws.registered_files_answer.Goals as goal

pub returns : goal.returns
returns c state world path bytes formed answered = stays_registered state world path bytes formed answered
