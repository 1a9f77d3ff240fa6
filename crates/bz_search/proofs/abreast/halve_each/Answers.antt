use Rattle.std.proofs.Common.{arith, subst, sym}
use Rattle.bz_search.specs.Abreast.{IsSearch, Halves}
use Rattle.bz_search.proofs.AbreastLemmas.{none, each_more, others_kept}
use Rattle.bz_search.proofs.abreast.halve_each.Goals as goal

pub halve-requires : goal.halve-requires
halve-requires g c =
    let i = c.loop-search.search-index in
    subst (IsSearch c.args.table.now) (sym (c.loop-search.invariant.kept i none (omega arith))) (c.requires i none c.loop-search-test.true)

pub loop-search-preserved : goal.loop-search-preserved
loop-search-preserved g c =
    let i = c.loop-search.invariant in
    record {
      halves = each_more (Halves c.args.table.now) c.args.searches.now c.loop-search.searches c.loop-search.search-index c.halve.new.search none c.loop-search-test.true c.loop-search.auto.searches i.halves i.kept c.halve.ensures.halves;
      kept = others_kept (Halves c.args.table.now) c.args.searches.now c.loop-search.searches c.loop-search.search-index c.halve.new.search i.kept;
      more = omega arith;
      cost = omega arith;
    }
