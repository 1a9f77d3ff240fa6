use Rattle.std.proofs.Common.{sym, ◌∙◌}
use Rattle.bz_cache.proofs.Stored.{kept_len}
use Rattle.bz_cache.proofs.file_cache.versions.len.Goals as goal

pub returns : goal.returns
returns g c = c.len.ensures.len ∙ sym (kept_len g.T.Version.bytes_of c.args.versions.now c.len.ensures.ordered)
