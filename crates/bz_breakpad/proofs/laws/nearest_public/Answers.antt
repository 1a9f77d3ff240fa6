use Rattle.bz_breakpad.proofs.PublicLaws.{nearest_again, nearest_is, none_above}
use Rattle.bz_breakpad.proofs.PublicLemmas.{public_none}
use Rattle.bz_breakpad.proofs.laws.nearest_public.Goals as goal

pub returns-clause-is : goal.returns-clause-is
returns-clause-is c publics addr p = (nearest_is addr publics p, λ found. nearest_again addr publics found.0 p found.1)

pub returns-clause-none : goal.returns-clause-none
returns-clause-none c publics addr = (none_above addr publics, public_none addr publics)
