use Rattle.std.proofs.Common.{true}
use Rattle.bz_cache.specs.Cache.{Cache}
use Rattle.bz_cache.specs.Store.{kept_of, counted_of, paths_of}
use Rattle.bz_cache.proofs.Counted.{counts_pinned}
use Rattle.bz_cache.proofs.Pinning.{consistent_pinned}
use Rattle.bz_cache.proofs.file_cache.FileCache.pin.Goals as goal

pub invariant_of-self : goal.invariant_of-self
invariant_of-self g c =
    let old : Cache = record { reload = c.self.inside.reload; kept = kept_of g.T.Version.bytes_of c.self.inside.versions; paths = paths_of c.self.inside.paths } in
    rw c.set_pinned.ensures.paths (consistent_pinned g.T.Version.test old c.args.path.now true c.self.invariant.0, counts_pinned old.paths (counted_of g.T.Version.bytes_of c.self.inside.versions) c.self.invariant.1 c.args.path.now true)
