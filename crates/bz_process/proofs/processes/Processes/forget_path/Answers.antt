use Rattle.bz_process.proofs.CachingPromise.{well_without_path}
use Rattle.bz_process.proofs.processes.Processes.forget_path.Goals as goal

-- what is kept stays well kept
pub invariant_of-self : goal.invariant_of-self
invariant_of-self g c = rw (c.forget.ensures.dispatch, c.forget.ensures.answers) (well_without_path _ c.args.path.now _ c.self.invariant)
