use Rattle.std.proofs.Common.{sym, ap, is_some, ◌∙◌}
use Rattle.bz_cache.proofs.Stored.{get_kept, is_some-map}
use Rattle.bz_cache.proofs.file_cache.versions.is_kept.Goals as goal

pub returns : goal.returns
returns g c =
    c.contains_key.ensures ∙ sym (ap is_some (get_kept g.T.Version.bytes_of c.args.versions.now c.args.stamp.now) ∙ is_some-map _ _)
