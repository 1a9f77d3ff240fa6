use Rattle.std.proofs.Common.{refl}
use Rattle.bz_process.specs.Caching.{caching_of}
use Rattle.bz_process.proofs.CachingPromise.{caching_promised, caching_well}
use Rattle.bz_process.proofs.processes.Processes.cache.Goals as goal

-- what is kept stays well kept
pub invariant_of-self : goal.invariant_of-self
invariant_of-self g c =
    caching_well g.F.Files (caching_of (g.F.Files.pid c.args.files.now) c.args.request.now) c.cache_process.result _ _ c.args.files.now c.cache_process.new.files _ c.self.invariant c.cache_process.ensures.step refl

-- the process is cached
pub returns : goal.returns
returns g c =
    rw (← c.self.view_is)
    (caching_promised g.F.Files (caching_of (g.F.Files.pid c.args.files.now) c.args.request.now) c.cache_process.result _ _ c.args.files.now c.cache_process.new.files
    c.cache_process.ensures.step c.cache_process.ensures.mappings c.cache_process.ensures.untold c.cache_process.ensures.pinned c.cache_process.ensures.err c.cache_process.ensures.refusal c.cache_process.ensures.sure refl refl c.self.invariant.perf_maps)
