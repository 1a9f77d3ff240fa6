use Rattle.std.proofs.Common.{Some, sym, ap, ◌∙◌}
use Rattle.std.proofs.lemmas.Option.{get_or_from_slice_get}
use Rattle.bz_cache.proofs.SortedEdits.{sorted_removed}
use Rattle.bz_cache.proofs.insert_map.InsertMap.remove.Goals as goal

pub invariant_of-self : goal.invariant_of-self
invariant_of-self g c =
    let removed = rw (← c.self.view_is) at c.in-Ok.ensures.found.removed in
    rw (c.remove-key.ensures.items, ← removed) (sorted_removed g.K.Ord.cmp _ _ c.self.invariant)

pub returns-in-Ok-clause-value : goal.returns-in-Ok-clause-value
returns-in-Ok-clause-value g c =
    let there = rw (← c.self.view_is) at c.in-Ok.ensures.found.there in
    let entry = c.remove-key.ensures.value ∙ get_or_from_slice_get c.self.inside.pairs.items c.in-Ok.at _ c.remove-key.result there in
    ap (λ e. Some e.1) entry ∙ sym c.in-Ok.ensures.found.value
