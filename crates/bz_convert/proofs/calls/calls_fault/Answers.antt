use Rattle.std.proofs.Common.{sym, subst}
use Rattle.bz_convert.specs.Reach.{AreByDepth}
use Rattle.bz_convert.proofs.OverlapLemmas.{in_order}
use Rattle.bz_convert.proofs.calls.calls_fault.Goals as goal

pub reaches_of-requires : goal.reaches_of-requires
reaches_of-requires c = subst AreByDepth (sym c.requires) (in_order c.args.function.now)
