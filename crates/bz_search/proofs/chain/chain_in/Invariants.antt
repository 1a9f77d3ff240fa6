use Rattle.std.proofs.Common.{◌-◌, ◌≡◌, ◌++◌, List, map}
use Rattle.bz_search.specs.Chain.{chain, chain_from}
use Rattle.bz_search.specs.Nearest.{IsTable}
use Rattle.bz_search.proofs.chain.chain_in.Given as goal

-- what was found before what is still to be found is the whole chain
abbrev pub invariant-loop-depth : goal.invariant-loop-depth
invariant-loop-depth g l = (records : List g.row.T.Denot) → IsTable g.T.Nested.depth g.T.Spanned.start records l.table →
    map (λ r. r.now) l.found.items ++ chain_from g.T.Nested.depth g.T.Spanned.start g.T.Spanned.size records l.addr (4294967296 - l.depth) l.depth ≡ chain g.T.Nested.depth g.T.Spanned.start g.T.Spanned.size records l.addr

-- the depths to come
abbrev pub decreases-loop-depth : goal.decreases-loop-depth
decreases-loop-depth g l = 4294967296 - l.depth
