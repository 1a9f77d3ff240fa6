use Rattle.std.proofs.Common.{subst}
use Rattle.bz_bytes.specs.Line.{AreLines}
use Rattle.bz_bytes.proofs.LineLemmas.{ended_found, ended_again, all_found, all_again}
use Rattle.bz_bytes.proofs.laws.lines_are_exact.Goals as goal

pub returns-clause-ended : goal.returns-clause-ended
returns-clause-ended c text lines = (ended_found text lines, ended_again text lines)

pub returns-clause-all : goal.returns-clause-all
returns-clause-all c text lines = (λ read. subst (AreLines text) read (all_found text), all_again text lines)
