use Rattle.bz_symbolize.specs.State.{State}
use Rattle.bz_symbolize.proofs.CachingLemmas.{well_pinned}
use Rattle.bz_symbolize.proofs.kept_files.KeptFiles.pin_elf.Goals as goal

-- the files stay well kept
pub invariant_of-self : goal.invariant_of-self
invariant_of-self g c =
    let state : State = record { settings = c.self.inside.settings; breakpad = c.self.inside.breakpad; gsym = c.self.inside.gsym; elf = c.self.inside.elf } in
    well_pinned g.F.Files c.args.path.now c.pin_file.result state c.pin_file.new.cache c.args.files.now c.pin_file.new.files c.pin_file.ensures c.self.invariant
