use Rattle.bz_cache.proofs.Stored.{kept_insert, counted_insert}
use Rattle.bz_cache.proofs.file_cache.versions.insert.Goals as goal

pub returns-clause-ok : goal.returns-clause-ok
returns-clause-ok g c = kept_insert g.T.Version.bytes_of c.args.versions.now c.insert.new.self _ _ c.in_ok-insert.ensures.updates

pub returns-clause-counted : goal.returns-clause-counted
returns-clause-counted g c = counted_insert g.T.Version.bytes_of c.args.versions.now c.insert.new.self _ _ c.in_ok-insert.ensures.updates
