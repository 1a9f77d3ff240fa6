use Rattle.bz_cache.proofs.SortedEdits.{sorted_empty}
use Rattle.bz_cache.proofs.insert_map.InsertMap.new.Goals as goal

pub invariant_of-result : goal.invariant_of-result
invariant_of-result g c = rw c.new.ensures.items (sorted_empty g.K.Ord.cmp)
