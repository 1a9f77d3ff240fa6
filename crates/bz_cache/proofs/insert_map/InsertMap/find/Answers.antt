use Rattle.std.proofs.Common.{rules}
use Rattle.std.proofs.lemmas.Fn.{always_returns_same}
use Rattle.bz_cache.proofs.SortedPairs.{searched-found, searched-absent}
use Rattle.bz_cache.proofs.insert_map.InsertMap.find.Goals as goal

pub returns-clause-found : goal.returns-clause-found
returns-clause-found g c =
    let facts = c.binary_search_by.ensures in
    let by_order = facts.position (λ pair. g.K.Ord.cmp pair.0 c.args.key.now) (always_returns_same _ _ _ (λ a r f' called. search rules)) in
    rw (← c.self.view_is, ← c.deref.ensures.value) (searched-found g.met.K.Ord.total c.args.key.now c.deref.result.now (rw c.deref.ensures.value c.self.invariant) c.binary_search_by.result facts.bound by_order)

pub returns-clause-absent : goal.returns-clause-absent
returns-clause-absent g c =
    let facts = c.binary_search_by.ensures in
    let by_order = facts.position (λ pair. g.K.Ord.cmp pair.0 c.args.key.now) (always_returns_same _ _ _ (λ a r f' called. search rules)) in
    rw (← c.self.view_is, ← c.deref.ensures.value) (searched-absent g.met.K.Ord.total c.args.key.now c.deref.result.now (rw c.deref.ensures.value c.self.invariant) c.binary_search_by.result facts.bound by_order)
