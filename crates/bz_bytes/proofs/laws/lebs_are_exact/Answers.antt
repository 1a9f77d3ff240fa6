use Rattle.bz_bytes.proofs.LebSpellingLemmas.{uleb_found, uleb_spelled, sleb_found, sleb_spelled}
use Rattle.bz_bytes.proofs.laws.lebs_are_exact.Goals as goal

pub returns-clause-unsigned : goal.returns-clause-unsigned
returns-clause-unsigned c bytes value rest = (uleb_found bytes value rest, uleb_spelled bytes value rest)

pub returns-clause-signed : goal.returns-clause-signed
returns-clause-signed c bytes value rest = (sleb_found bytes value rest, sleb_spelled bytes value rest)
