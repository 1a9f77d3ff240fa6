use Rattle.bz_base.specs.Answer.{reading}
use Rattle.bz_base.specs.InputKind.{address_kind, payload}
use Rattle.bz_symbolize.specs.FileCall.{single_query}
use Rattle.bz_symbolize.proofs.AskingLemmas.{address_asked, address_called}
use Rattle.bz_symbolize.proofs.symbolizer.Symbolizer.symbolize_single.Goals as goal

-- a process is asked
pub returns-in-Some-clause-call : goal.returns-in-Some-clause-call
returns-in-Some-clause-call g c =
    rw (← c.self.view_is)
    (address_called g.F.Files c.args.src.now c.in-Some.query c.in-Some.ensures c.symbolize_process_single.result (record { files = c.self.inside.files; processes = c.self.inside.processes })
    (record { files = c.symbolize_process_single.new.self; processes = c.symbolize_process_single.new.processes }) c.args.files.now c.symbolize_process_single.new.files c.symbolize_process_single.ensures.rest
    (g.D.ProcessDispatch.may_dispatch c.self.inside.processes.dispatcher) g.D.Resolver.TranslateFileOffset g.D.Resolver.Symbolize (address_kind c.args.input) reading (payload c.args.input) c.symbolize_process_single.ensures.asked c.symbolize_process_single.ensures.caches (single_query c.args.input))

pub returns-in-Some-clause-process : goal.returns-in-Some-clause-process
returns-in-Some-clause-process g c =
    rw (← c.self.view_is)
    (address_asked g.F.Files c.args.src.now c.in-Some.query c.in-Some.ensures c.symbolize_process_single.result (record { files = c.self.inside.files; processes = c.self.inside.processes })
    (record { files = c.symbolize_process_single.new.self; processes = c.symbolize_process_single.new.processes }) c.args.files.now c.symbolize_process_single.new.files c.symbolize_process_single.ensures.rest
    (g.D.ProcessDispatch.may_dispatch c.self.inside.processes.dispatcher) g.D.Resolver.TranslateFileOffset g.D.Resolver.Symbolize (address_kind c.args.input) reading (payload c.args.input) c.symbolize_process_single.ensures.asked)
