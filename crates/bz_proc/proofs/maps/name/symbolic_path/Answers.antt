use Rattle.bz_proc.proofs.NameLemmas.{path_unmarked}
use Rattle.bz_proc.proofs.maps.name.symbolic_path.Goals as goal

pub returns-in-None : goal.returns-in-None
returns-in-None c = path_unmarked c.args.text.now c.in-None.ensures.cases
