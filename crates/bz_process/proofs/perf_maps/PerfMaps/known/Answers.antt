use Rattle.std.proofs.Common.{sym}
use Rattle.bz_process.specs.Caches.{caches}
use Rattle.bz_process.proofs.ProcessLemmas.{recalls}
use Rattle.bz_process.proofs.UntoldLemmas.{recall_lacks, recalled, status_lacks}
use Rattle.bz_process.proofs.perf_maps.PerfMaps.known.Goals as goal

-- the process is remembered
pub returns-in-Some-clause-step : goal.returns-in-Some-clause-step
returns-in-Some-clause-step g c elf =
    rw c.get.follows.holds-at-none
    (recalls g.F.Files c.args.pid (g.F.Files.pid c.args.files.now) c.share.result c.in-Some.known.now (caches elf c.args.self.now) c.args.files.now (sym c.in-Some.ensures.value) c.share.ensures.known c.share.ensures.memory)

-- it is remembered now
pub returns-in-None-clause-step : goal.returns-in-None-clause-step
returns-in-None-clause-step g c elf = rw c.get.follows.holds-at-none at (c.remember.ensures.step elf)

-- the same where files tell nothing
pub returns-in-Some-clause-untold : goal.returns-in-Some-clause-untold
returns-in-Some-clause-untold g c = recalled c.args.pid (g.F.Files.pid c.args.files.now) _ c.in-Some.known.now c.share.result (sym c.in-Some.ensures.value) c.share.ensures.known

pub returns-in-Some-clause-refusal : goal.returns-in-Some-clause-refusal
returns-in-Some-clause-refusal g c = recall_lacks _ c.share.result c.share.ensures.memory

pub returns-in-None-clause-untold : goal.returns-in-None-clause-untold
returns-in-None-clause-untold g c = rw (sym c.in-None.ensures.value) c.remember.ensures.untold

pub returns-in-None-clause-refusal : goal.returns-in-None-clause-refusal
returns-in-None-clause-refusal g c = rw (sym c.in-None.ensures.value) (status_lacks c.remember.result c.remember.ensures.refusal)
