use Rattle.std.proofs.Common.{arith}
use Rattle.bz_search.proofs.AbreastLemmas.{kept_more, placed_more}
use Rattle.bz_search.proofs.SweepLemmas.{length_pushed}
use Rattle.bz_search.proofs.abreast.push_found.Goals as goal

pub loop-search-preserved : goal.loop-search-preserved
loop-search-preserved c =
    let i = c.loop-search.invariant in
    let old = c.args.places.now.items in
    let pushed = c.in_ok-push.ensures.items in
    record {
      count = omega (arith, i.count, length_pushed c.loop-search.places.items c.push.new.self.items c.placed.result pushed);
      kept = kept_more c.args.table.now c.args.searches.now old c.loop-search.places.items c.push.new.self.items c.loop-search.search-index c.placed.result i.count pushed i.kept;
      found = placed_more c.args.table.now c.args.searches.now old c.loop-search.places.items c.push.new.self.items c.loop-search.search-index c.placed.result i.count pushed _ c.loop-search-test.true i.found c.placed.ensures;
    }
