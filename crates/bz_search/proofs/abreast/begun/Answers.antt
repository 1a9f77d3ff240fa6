use Rattle.std.proofs.Common.{◌≡◌, ◌+◌, ◌-◌, arith, ap}
use Rattle.std.specs.Prelude.{slice_index}
use Rattle.bz_search.specs.Abreast.{IsSearch}
use Rattle.bz_search.proofs.AbreastLemmas.{begins, each_pushed}
use Rattle.bz_search.proofs.SweepLemmas.{length_pushed}
use Rattle.bz_search.proofs.abreast.begun.Goals as goal

pub loop-index-preserved : goal.loop-index-preserved
loop-index-preserved c =
    let i = c.loop-index.invariant in
    let done = c.loop-index.index - c.args.from in
    let now = c.loop-index.searches.items in
    let after = c.push.new.self.items in
    let pushed = c.in_ok-push.ensures.items in
    let here : c.loop-index.index ≡ c.args.from + done = omega arith in
    record {
      searches = λ k d within. each_pushed (λ k s. IsSearch c.args.table.now s) now after _ done pushed i.count i.searches
          (begins c.args.table.now (slice_index c.args.addrs.now c.loop-index.index) c.len-count.result c.len-count.ensures.value c.len-count.ensures.never_descends) k d (omega arith);
      addrs = λ k d within. each_pushed (λ k s. s.addr ≡ slice_index c.args.addrs.now (c.args.from + k)) now after _ done pushed i.count i.addrs
          (ap (slice_index c.args.addrs.now) here) k d (omega arith);
      count = omega (arith, i.count, length_pushed now after _ pushed);
    }
