use Rattle.bz_search.proofs.StartsLemmas.{sorted_never_descends}
use Rattle.bz_base_tests.proofs.nearest.sorted_have_places.Goals as goal

pub from_sorted-starts-requires : goal.from_sorted-starts-requires
from_sorted-starts-requires g c = sorted_never_descends _ c.sort_unstable.ensures.sorted
