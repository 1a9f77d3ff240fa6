use Rattle.std.specs.FinMap as map
use Rattle.bz_cache.proofs.Counted.{counts_new}
use Rattle.bz_cache.proofs.Naming.{consistent_new}
use Rattle.bz_cache.proofs.file_cache.FileCache.empty.Goals as goal

pub invariant_of-result : goal.invariant_of-result
invariant_of-result g c = rw (c.new.ensures.empty, c.new-2.ensures.empty) (consistent_new g.T.Version.test c.args.reload, counts_new map.empty)

pub returns-clause-consistent : goal.returns-clause-consistent
returns-clause-consistent g c = rw (c.new.ensures.empty, c.new-2.ensures.empty) (consistent_new g.T.Version.test c.args.reload)
