use Rattle.bz_proc.proofs.StatusLaws.{tells_found, tells_again}
use Rattle.bz_proc.proofs.laws.statuses_are_exact.Goals as goal

pub returns : goal.returns
returns c status told = (tells_found status told, tells_again status told)
