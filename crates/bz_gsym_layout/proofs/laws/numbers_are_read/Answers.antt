use Rattle.bz_gsym_layout.proofs.LebLemmas.{uleb_again, positive_again, negative_again}
use Rattle.bz_gsym_layout.proofs.laws.numbers_are_read.Goals as goal

pub returns-clause-unsigned : goal.returns-clause-unsigned
returns-clause-unsigned c number rest small = uleb_again number rest small

pub returns-clause-positive : goal.returns-clause-positive
returns-clause-positive c number rest small = positive_again number rest small

pub returns-clause-negative : goal.returns-clause-negative
returns-clause-negative c below rest small = negative_again below rest small
