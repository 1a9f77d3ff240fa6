use Rattle.bz_bytes.proofs.ZeroEndedLemmas.{in_front, stands}
use Rattle.bz_bytes.proofs.laws.zero_ended_texts_are_exact.Goals as goal

pub returns : goal.returns
returns c bytes place text = (λ both. stands bytes place text both.0 both.1, λ is. (in_front bytes place text is, is.utf8))
