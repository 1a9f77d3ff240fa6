use Rattle.std.proofs.Common.{None, option_map, sym, ap, ◌∙◌, refl}
use Rattle.bz_cache.specs.Store.{path_state}
use Rattle.bz_cache.proofs.Stored.{get_path, paths_remove}
use Rattle.bz_cache.proofs.file_cache.paths.remove.Goals as goal

pub returns-clause-value : goal.returns-clause-value
returns-clause-value c = ap (option_map path_state) c.remove.ensures.value ∙ sym (get_path c.args.paths.now c.args.path.now)

pub returns-clause-paths : goal.returns-clause-paths
returns-clause-paths c = paths_remove c.args.paths.now c.remove.new.self c.args.path.now None c.remove.ensures.updates refl
