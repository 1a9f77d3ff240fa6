use Rattle.bz_cache.specs.InsertMap.{value_at}
use Rattle.bz_process.specs.Process.{pid_cmp}
use Rattle.bz_process.proofs.CachingLaws.{caching_coherent, forgotten_coherent}
use Rattle.bz_process.proofs.caching_laws.caching_stays_coherent.Goals as goal

pub returns-clause-cached : goal.returns-clause-cached
returns-clause-cached g c own worlds world old now agree has reached coherent = caching_coherent worlds own agree world has old now reached coherent

pub returns-clause-forgotten : goal.returns-clause-forgotten
returns-clause-forgotten g c worlds pid kept coherent = forgotten_coherent worlds kept.perf_maps (value_at pid_cmp kept.ids pid) coherent
