use Rattle.std.proofs.Common.{List, refl, ap, ◌∙◌}
use Rattle.std.specs.List.{insert}
use Rattle.bz_cache.proofs.SortedEdits.{sorted_inserted}
use Rattle.bz_cache.proofs.SortedPairs.{with_found, value_found, with_gap, value_inserted, length_inserted}
use Rattle.bz_cache.proofs.insert_map.InsertMap.place.Goals as goal

pub invariant_of-self-in-Err : goal.invariant_of-self-in-Err
invariant_of-self-in-Err g c =
    let gap = rw (← c.self.view_is) at c.in-Err.ensures.absent in
    rw (c.in_ok-insert-in-Err.ensures.items, ← gap.inserted _) (sorted_inserted g.met.K.Ord.total c.args.key _ _ c.self.invariant)

pub returns-in-Ok-clause-ok : goal.returns-in-Ok-clause-ok
returns-in-Ok-clause-ok g c =
    let found = c.in-Ok.ensures.found in
    (found.entry.1, value_found _ _ _ found, found.in_range, with_found _ _ _ found _, rw found.value refl)

pub returns-in_ok-insert-in-Err-clause-ok : goal.returns-in_ok-insert-in-Err-clause-ok
returns-in_ok-insert-in-Err-clause-ok g c =
    let gap = c.in-Err.ensures.absent in
    let value = c.in_ok-value-in-Err.value in
    let items = c.in_ok-insert-in-Err.ensures.items ∙ ap (λ (es : List (g.row.K.Denot × g.row.V.Denot)). insert es c.in-Err.at (c.args.key, value)) c.self.view_is in (
      value,
      rw items (value_inserted c.args.self.now c.args.key c.in-Err.at gap value),
      rw items (length_inserted c.args.self.now c.args.key c.in-Err.at gap value),
      items ∙ with_gap c.args.self.now c.args.key c.in-Err.at gap value,
      rw gap.absent c.in_ok-value-in-Err.ensures,
    )
