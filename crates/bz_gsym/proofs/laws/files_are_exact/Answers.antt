use Rattle.bz_gsym.proofs.FormatLemmas.{passed, passes}
use Rattle.bz_gsym.proofs.laws.files_are_exact.Goals as goal

pub returns : goal.returns
returns c bytes = (passed bytes, passes bytes)
