use Rattle.std.proofs.Common.{map}
use Rattle.bz_base.specs.Answer.{reading}
use Rattle.bz_base.specs.InputKind.{address_kind, payload}
use Rattle.bz_process.specs.Asked.{asked_of}
use Rattle.bz_symbolize.specs.State.{State}
use Rattle.bz_symbolize.proofs.AskingLemmas.{batch_leaves, stays_well}
use Rattle.bz_symbolize.proofs.kept_files.KeptFiles.symbolize_process.Goals as goal

-- the files stay well kept
pub invariant_of-self : goal.invariant_of-self
invariant_of-self g c =
    let state : State = record { settings = c.self.inside.settings; breakpad = c.self.inside.breakpad; gsym = c.self.inside.gsym; elf = c.self.inside.elf } in
    stays_well g.F.Files c.symbolize.result state c.symbolize.new.elf c.args.processes.now c.symbolize.new.self c.args.files.now c.symbolize.new.files c.self.invariant
    (batch_leaves g.F.Files c.symbolize.result state c.symbolize.new.elf c.args.processes.now c.symbolize.new.self c.args.files.now c.symbolize.new.files
    (g.D.ProcessDispatch.may_dispatch c.args.processes.now.dispatcher) g.D.Resolver.TranslateFileOffset g.D.Resolver.Symbolize _ (asked_of (g.F.Files.pid c.args.files.now) c.args.query.now) (address_kind c.args.input)
    (λ answers. map reading answers.items) (payload c.args.input).now c.symbolize.ensures)

pub returns-clause-caches : goal.returns-clause-caches
returns-clause-caches g c = invariant_of-self g c
