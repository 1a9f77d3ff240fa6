use Rattle.bz_process.proofs.CachingPromise.{well_without_process}
use Rattle.bz_process.proofs.processes.Processes.evict_process.Goals as goal

-- what is kept stays well kept
pub invariant_of-self : goal.invariant_of-self
invariant_of-self g c =
    let well = well_without_process _ c.args.pid _ c.self.invariant in
    record { perf_maps = rw c.forget.ensures.files well.perf_maps; answers = well.answers }
