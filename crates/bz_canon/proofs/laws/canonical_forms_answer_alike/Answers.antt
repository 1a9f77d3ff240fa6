use Rattle.bz_canon.proofs.CanonLaws.{plain_same}
use Rattle.bz_canon.proofs.laws.canonical_forms_answer_alike.Goals as goal

pub returns : goal.returns
returns c = plain_same
