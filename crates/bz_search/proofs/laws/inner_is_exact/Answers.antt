use Rattle.bz_search.proofs.ChainLemmas.{chain_is}
use Rattle.bz_search.proofs.InnerLemmas.{inner_above, inner_is, inner_again, inner_none}
use Rattle.bz_search.proofs.laws.inner_is_exact.Goals as goal

pub returns-clause-tried : goal.returns-clause-tried
returns-clause-tried g c depth start records at addr x =
    (inner_is depth start records at addr x, λ found. inner_again depth start records at addr found.0 x found.1)

pub returns-clause-none : goal.returns-clause-none
returns-clause-none g c depth start records at addr = (inner_above depth start records at addr, inner_none depth start records at addr)

pub returns-clause-chain : goal.returns-clause-chain
returns-clause-chain g c depth start size records addr = chain_is depth start size records addr
