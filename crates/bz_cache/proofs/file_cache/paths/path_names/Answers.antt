use Rattle.std.proofs.Common.{sym, ap, ◌∙◌}
use Rattle.std.specs.Option.{option_copied}
use Rattle.bz_cache.proofs.Stored.{path_found, path_absent}
use Rattle.bz_cache.proofs.file_cache.paths.path_names.Goals as goal

pub returns-in-Some : goal.returns-in-Some
returns-in-Some c =
    rw (path_found c.args.paths.now c.args.path.now _ (sym c.get.ensures.value ∙ ap option_copied c.in-Some.is)) c.names.ensures

pub returns-in-None : goal.returns-in-None
returns-in-None c =
    rw (path_absent c.args.paths.now c.args.path.now (sym c.get.ensures.value ∙ ap option_copied c.in-None.is))
