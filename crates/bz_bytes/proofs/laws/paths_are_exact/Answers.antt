use Rattle.std.proofs.Common.{ap}
use Rattle.bz_bytes.specs.Path.{split}
use Rattle.bz_bytes.proofs.SplitLemmas.{split_found, split_again, split_none}
use Rattle.bz_bytes.proofs.laws.paths_are_exact.Goals as goal

pub returns-clause-parts : goal.returns-clause-parts
returns-clause-parts c text directory file = (split_found text directory file, split_again text directory file)

pub returns-clause-none : goal.returns-clause-none
returns-clause-none c text = (split_none text, λ empty. ap split empty)
