use Rattle.std.proofs.Common.{ap, ◌∙◌}
use Rattle.std.proofs.lemmas.Map.{keys-set_value}
use Rattle.bz_cache.proofs.SortedPairs.{pair_found, with_replaced}
use Rattle.bz_cache.proofs.insert_map.InsertMap.replace.Goals as goal

pub invariant_of-self : goal.invariant_of-self
invariant_of-self g c =
    let found = rw (← c.self.view_is) at c.in-Ok.ensures.found in
    rw (with_replaced c.self.inside.pairs.items c.args.key.now c.in-Ok.at found c.index_mut.result.now c.index_mut.ensures.value c.args.value c.replace.new.dest c.replace.ensures.after, keys-set_value) c.self.invariant

pub returns-in-Ok-clause-value : goal.returns-in-Ok-clause-value
returns-in-Ok-clause-value g c =
    let found = rw (← c.self.view_is) at c.in-Ok.ensures.found in
    let old = c.replace.ensures.value ∙ ap (λ e. e.1) (pair_found c.self.inside.pairs.items c.args.key.now c.in-Ok.at found c.index_mut.result.now c.index_mut.ensures.value) in
    rw (← c.self.view_is, found.value, old)

pub returns-in-Ok-clause-state : goal.returns-in-Ok-clause-state
returns-in-Ok-clause-state g c =
    let found = rw (← c.self.view_is) at c.in-Ok.ensures.found in
    rw (← c.self.view_is) (with_replaced c.self.inside.pairs.items c.args.key.now c.in-Ok.at found c.index_mut.result.now c.index_mut.ensures.value c.args.value c.replace.new.dest c.replace.ensures.after)
