use Rattle.bz_breakpad.proofs.FoundInLemmas.{found_plain}
use Rattle.bz_breakpad.proofs.laws.found_symbols_are_plain.Goals as goal

pub returns : goal.returns
returns c = found_plain
