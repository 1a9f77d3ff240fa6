use Rattle.bz_breakpad.proofs.AddressLaws.{known_at}
use Rattle.bz_breakpad.proofs.laws.answers_lie_at_their_addresses.Goals as goal

pub returns : goal.returns
returns c = known_at
