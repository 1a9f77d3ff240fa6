use Rattle.std.proofs.Common.{refl}
use Rattle.bz_process.specs.Caches.{caches}
use Rattle.bz_process.proofs.CachingLemmas.{whole_still}
use Rattle.bz_process.proofs.perf_maps.PerfMaps.cache.Goals as goal

-- the perf map is asked for
pub returns-then-request-clause-step : goal.returns-then-request-clause-step
returns-then-request-clause-step g c elf = rw c.if-request.true (c.pin.ensures.step elf)

pub returns-then-request-clause-pinned : goal.returns-then-request-clause-pinned
returns-then-request-clause-pinned g c elf = rw c.if-request.true (c.pin.ensures.pinned elf)

-- it isn't
pub returns-else-request-clause-step : goal.returns-else-request-clause-step
returns-else-request-clause-step g c elf = rw c.if-request.false (whole_still g.F.Files (g.F.Files.pid c.args.files.now) (caches elf c.args.self.now) c.args.files.now)

pub returns-else-request-clause-pinned : goal.returns-else-request-clause-pinned
returns-else-request-clause-pinned g c elf = rw c.if-request.false refl
