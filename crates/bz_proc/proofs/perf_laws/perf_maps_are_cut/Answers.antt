use Rattle.std.proofs.Common.{subst}
use Rattle.bz_proc.specs.PerfLines.{AreParts}
use Rattle.bz_proc.proofs.PerfPartLemmas.{parts_again, parts_are}
use Rattle.bz_proc.proofs.perf_laws.perf_maps_are_cut.Goals as goal

pub returns : goal.returns
returns c = λ bytes parts. ((λ is. subst (AreParts bytes) is (parts_are bytes)), (λ are. parts_again parts bytes are))
