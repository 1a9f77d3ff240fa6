use Rattle.bz_store.proofs.Plainly.{keys_told, opens_told}
use Rattle.bz_store.proofs.laws.kept_keys_go_by_answers.Goals as goal

pub returns-clause-keys : goal.returns-clause-keys
returns-clause-keys c = λ cap opts visits kept opens. keys_told cap opts visits kept opens

pub returns-clause-opens : goal.returns-clause-opens
returns-clause-opens c = λ cap opts visits kept opens. opens_told cap opts visits kept opens
