use Rattle.bz_gsym.proofs.InlineSpellingLemmas.{frames_found, frames_again}
use Rattle.bz_gsym.proofs.laws.frames_are_the_trees.Goals as goal

pub returns-clause-some : goal.returns-clause-some
returns-clause-some c = frames_found

pub returns-clause-all : goal.returns-clause-all
returns-clause-all c = frames_again
