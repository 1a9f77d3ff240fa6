use Rattle.bz_process.proofs.EntryLemmas.{alone_shown, batch_in_view, single_in_view}
use Rattle.bz_process.proofs.laws.entries_are_in_view.Goals as goal

pub returns-clause-batch : goal.returns-clause-batch
returns-clause-batch g c call world promised goes =
    batch_in_view g.F.Files (g.D.ProcessDispatch.may_dispatch call.old.dispatcher) g.D.Resolver.TranslateFileOffset g.D.Resolver.Symbolize call.opts call.asked call.kind call.elf call.elf_now call.old call.now call.before call.after world goes.none goes.seen call.reading call.input call.result goes.coheres promised

pub returns-clause-single : goal.returns-clause-single
returns-clause-single g c call world promised taken goes =
    single_in_view g.F.Files (g.D.ProcessDispatch.may_dispatch call.old.dispatcher) g.D.Resolver.TranslateFileOffset g.D.Resolver.Symbolize call.opts call.asked call.kind call.elf call.elf_now call.old call.now call.before call.after world goes.none goes.seen call.reading call.input call.result taken goes.coheres promised

pub returns-clause-alone : goal.returns-clause-alone
returns-clause-alone g c asked known world kept addr coheres = alone_shown asked known world kept addr coheres
