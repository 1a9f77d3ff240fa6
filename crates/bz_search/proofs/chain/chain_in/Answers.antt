use Rattle.std.proofs.Common.{arith, sym}
use Rattle.std.proofs.lemmas.List.{map-append}
use Rattle.bz_search.proofs.ChainLemmas.{chain_begins, chain_more, chain_done, chain_deepest}
use Rattle.bz_search.proofs.chain.chain_in.Goals as goal

pub loop-depth-init : goal.loop-depth-init
loop-depth-init g c records is = rw c.new-found.ensures.items (chain_begins g.T.Nested.depth g.T.Spanned.start g.T.Spanned.size records c.args.addr)

pub returns-in-None : goal.returns-in-None
returns-in-None g c records is =
    chain_done g.T.Nested.depth g.T.Spanned.start g.T.Spanned.size records c.args.addr _ 4294967296 c.loop-depth.depth _ c.loop-depth-test.true (sym (c.in-None.ensures records is)) (c.loop-depth.invariant records is)

pub loop-depth-preserved : goal.loop-depth-preserved
loop-depth-preserved g c records is =
    rw (c.in_ok-push-in-Some.ensures.items, map-append)
    (chain_more g.T.Nested.depth g.T.Spanned.start g.T.Spanned.size records c.args.addr _ 4294967296 c.loop-depth.depth c.in-Some.entry.now _ c.loop-depth-test.true (sym (c.in-Some.ensures records is)) (c.loop-depth.invariant records is))

pub returns : goal.returns
returns g c records is =
    chain_deepest g.T.Nested.depth g.T.Spanned.start g.T.Spanned.size records c.args.addr _ 4294967296 c.loop-depth.depth _ (omega arith) (c.loop-depth.invariant records is)
