use Rattle.std.proofs.Common.{arith}
use borrow.Enum.Match.{tag_small}
use Rattle.bz_base.proofs.HashLemmas.{fed_alike}
use Rattle.bz_base.specs.contracts.types.SymType.{the_type}
use Rattle.bz_base.specs.contracts.types.Reason as reason
use Rattle.bz_base.proofs.laws.hashes_agree.Goals as goal

pub returns-clause-symbol_types : goal.returns-clause-symbol_types
returns-clause-symbol_types c a b = fed_alike _ _ (omega (arith, tag_small the_type a)) (omega (arith, tag_small the_type b))

pub returns-clause-reasons : goal.returns-clause-reasons
returns-clause-reasons c a b = fed_alike _ _ (omega (arith, tag_small reason.the_type a)) (omega (arith, tag_small reason.the_type b))
