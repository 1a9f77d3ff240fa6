use Rattle.bz_symbolize.specs.State.{State}
use Rattle.bz_symbolize.proofs.EvictingLemmas.{well_forgotten}
use Rattle.bz_symbolize.proofs.kept_files.KeptFiles.forget_elf.Goals as goal

-- the files stay well kept
pub invariant_of-self : goal.invariant_of-self
invariant_of-self c =
    let state : State = record { settings = c.self.inside.settings; breakpad = c.self.inside.breakpad; gsym = c.self.inside.gsym; elf = c.self.inside.elf } in
    rw c.evict-dropped.ensures.state (well_forgotten state c.args.path.now c.self.invariant)
