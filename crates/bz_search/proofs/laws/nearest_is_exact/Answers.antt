use Rattle.bz_search.proofs.NearestLemmas.{candidate_again, candidate_is, nearest_covering_is, nearest_covering_only, none_below, none_from_above}
use Rattle.bz_search.proofs.laws.nearest_is_exact.Goals as goal

pub returns-clause-tried : goal.returns-clause-tried
returns-clause-tried g c start size records addr x =
    (candidate_is start size addr records x, λ at. candidate_again start size addr records at.0 x at.1)

pub returns-clause-none : goal.returns-clause-none
returns-clause-none g c start size records addr = (none_below start size addr records, none_from_above start size addr records)

pub returns-clause-is : goal.returns-clause-is
returns-clause-is g c start size records addr = nearest_covering_is start size addr records

pub returns-clause-only : goal.returns-clause-only
returns-clause-only g c start size records addr answer is = nearest_covering_only start size addr records answer is
