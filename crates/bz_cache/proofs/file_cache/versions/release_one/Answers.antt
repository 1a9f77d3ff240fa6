use Rattle.bz_cache.specs.Store.{counted_of}
use Rattle.bz_cache.proofs.Releasing.{released_last, released_other}
use Rattle.bz_cache.proofs.file_cache.versions.release_one.Goals as goal

pub returns-then-lower : goal.returns-then-lower
returns-then-lower g c =
    rw c.remove.ensures.counted (released_last (counted_of g.T.Version.bytes_of c.args.versions.now) (counted_of g.T.Version.bytes_of c.lower.new.versions) c.args.stamp.now c.lower.result c.lower.ensures.last c.lower.ensures.counted c.if-lower.true)

pub returns-else-lower : goal.returns-else-lower
returns-else-lower g c =
    released_other (counted_of g.T.Version.bytes_of c.args.versions.now) (counted_of g.T.Version.bytes_of c.lower.new.versions) c.args.stamp.now c.lower.result c.lower.ensures.last c.lower.ensures.counted c.if-lower.false
