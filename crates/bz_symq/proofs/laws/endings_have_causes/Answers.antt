use Rattle.bz_symq.proofs.RunLemmas.{done_from_ends, refused_from_ends}
use Rattle.bz_symq.proofs.laws.endings_have_causes.Goals as goal

pub returns : goal.returns
returns c = record {
  done = λ command input world own old new ends. done_from_ends command input world own old new ends;
  refused = λ command input world own old new ends. refused_from_ends command input world own old new ends;
}
