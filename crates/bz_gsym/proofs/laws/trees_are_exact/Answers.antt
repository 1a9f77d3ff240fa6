use Rattle.bz_gsym.proofs.InlineSpellingLemmas.{tree_found, tree_again}
use Rattle.bz_gsym.proofs.laws.trees_are_exact.Goals as goal

pub returns : goal.returns
returns c bytes tree = (tree_found bytes tree, tree_again bytes tree)
