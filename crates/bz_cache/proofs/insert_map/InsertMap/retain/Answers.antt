use Rattle.std.proofs.Common.{rules}
use Rattle.bz_cache.proofs.SortedEdits.{filtered_as, sorted_chosen}
use Rattle.bz_cache.proofs.insert_map.InsertMap.retain.Goals as goal

pub invariant_of-self : goal.invariant_of-self
invariant_of-self g c = rw c.retain.ensures.filtered.4 (sorted_chosen g.K.Ord.cmp _ _ c.self.invariant)

pub returns : goal.returns
returns g c =
    rw (← c.self.view_is) (filtered_as _ _ (λ p. p.0) (λ p e b p' called. search rules) _ _ _ c.retain.ensures.filtered)
