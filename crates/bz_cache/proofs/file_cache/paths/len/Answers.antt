use Rattle.std.proofs.Common.{sym, ◌∙◌}
use Rattle.bz_cache.proofs.Stored.{paths_len}
use Rattle.bz_cache.proofs.file_cache.paths.len.Goals as goal

pub returns-clause-count : goal.returns-clause-count
returns-clause-count c = c.len.ensures.len ∙ sym (paths_len c.args.paths.now c.len.ensures.ordered)
