use Rattle.std.proofs.Common.{◌≡◌, ◌+◌, length, arith, ap, subst, sym, ◌∙◌}
use Rattle.std.specs.Prelude.{slice_index, slice_index_or}
use Rattle.bz_search.proofs.AbreastLemmas.{group_found}
use Rattle.bz_search.proofs.SweepLemmas.{written_back}
use Rattle.bz_search.proofs.abreast.search_group.Goals as goal

pub returns-clause-so_far : goal.returns-clause-so_far
returns-clause-so_far g c =
    let old = c.args.places.now.items in
    let all = c.deref.ensures.value ∙ written_back _ c.search_all.new.searches _ (omega arith) in
    let pushed = c.in_ok-push_found.ensures in
    group_found c.args.table.now c.args.addrs.now c.deref.result.now old c.push_found.new.places.items pushed.count pushed.kept pushed.found
    (λ k d within.
    let here : c.len-from.result + k ≡ length old + k = omega arith in
    let lent : (slice_index_or c.deref_mut.result.now k d).addr ≡ (slice_index_or c.in_ok-searches.searches.items k d).addr = ap (λ l. (slice_index_or l k d).addr) c.deref_mut.ensures.value in
    subst (λ l. (slice_index_or l k d).addr ≡ slice_index c.args.addrs.now (length old + k)) (sym all)
    ((c.search_all.ensures.ends k d (omega arith)).addr ∙ lent ∙ c.in_ok-searches.ensures.addrs k d (omega (arith, c.in_ok-searches.ensures.count)) ∙ ap (slice_index c.args.addrs.now) here))
    c.requires.so_far
