use Rattle.std.proofs.Common.{refl}
use Rattle.bz_base.specs.Answer.{reading}
use Rattle.bz_process.specs.Caches.{caches}
use Rattle.bz_process.proofs.ProcessLemmas.{still}
use Rattle.bz_process.proofs.perf_maps.PerfMaps.answer_without_name.Goals as goal

-- the perf map isn't asked
pub returns-else-query-clause-step : goal.returns-else-query-clause-step
returns-else-query-clause-step g c elf = rw c.if-query.false (still g.F.Files (g.F.Files.pid c.args.files.now) reading _ _ (caches elf c.args.self.now) c.args.files.now refl)

-- the perf map is asked
pub returns-then-query-clause-step : goal.returns-then-query-clause-step
returns-then-query-clause-step g c elf = rw c.if-query.true (c.in_perf_map.ensures.step elf)

-- the same where files tell nothing
pub returns-else-query-clause-untold : goal.returns-else-query-clause-untold
returns-else-query-clause-untold g c elf = rw c.if-query.false (refl, refl)

pub returns-then-query-clause-untold : goal.returns-then-query-clause-untold
returns-then-query-clause-untold g c elf = rw c.if-query.true (c.in_perf_map.ensures.untold elf)
