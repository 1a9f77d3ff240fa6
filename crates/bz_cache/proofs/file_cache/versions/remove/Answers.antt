use Rattle.bz_cache.proofs.Stored.{kept_remove, counted_remove}
use Rattle.bz_cache.proofs.file_cache.versions.remove.Goals as goal

pub returns-clause-kept : goal.returns-clause-kept
returns-clause-kept g c = kept_remove g.T.Version.bytes_of c.args.versions.now c.remove.new.self _ c.remove.ensures.updates

pub returns-clause-counted : goal.returns-clause-counted
returns-clause-counted g c = counted_remove g.T.Version.bytes_of c.args.versions.now c.remove.new.self _ c.remove.ensures.updates
