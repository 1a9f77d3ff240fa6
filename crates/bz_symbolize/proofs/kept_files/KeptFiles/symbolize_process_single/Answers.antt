use Rattle.bz_base.specs.Answer.{reading}
use Rattle.bz_base.specs.InputKind.{address_kind, payload}
use Rattle.bz_process.specs.Asked.{asked_of}
use Rattle.bz_symbolize.specs.State.{State}
use Rattle.bz_symbolize.proofs.AskingLemmas.{address_leaves, stays_well}
use Rattle.bz_symbolize.proofs.kept_files.KeptFiles.symbolize_process_single.Goals as goal

-- the files stay well kept
pub invariant_of-self : goal.invariant_of-self
invariant_of-self g c =
    let state : State = record { settings = c.self.inside.settings; breakpad = c.self.inside.breakpad; gsym = c.self.inside.gsym; elf = c.self.inside.elf } in
    stays_well g.F.Files c.symbolize_single.result state c.symbolize_single.new.elf c.args.processes.now c.symbolize_single.new.self c.args.files.now c.symbolize_single.new.files c.self.invariant
    (address_leaves g.F.Files c.symbolize_single.result state c.symbolize_single.new.elf c.args.processes.now c.symbolize_single.new.self c.args.files.now c.symbolize_single.new.files
    (g.D.ProcessDispatch.may_dispatch c.args.processes.now.dispatcher) g.D.Resolver.TranslateFileOffset g.D.Resolver.Symbolize _ (asked_of (g.F.Files.pid c.args.files.now) c.args.query.now) (address_kind c.args.input)
    reading (payload c.args.input) c.symbolize_single.ensures)

pub returns-clause-caches : goal.returns-clause-caches
returns-clause-caches g c = invariant_of-self g c
