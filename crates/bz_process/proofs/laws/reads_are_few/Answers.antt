use Rattle.bz_process.proofs.BoundLemmas.{batch_bound, single_bound}
use Rattle.bz_process.proofs.laws.reads_are_few.Goals as goal

pub returns-clause-batch : goal.returns-clause-batch
returns-clause-batch g c call world paths promised seen have =
    batch_bound g.F.Files (g.D.ProcessDispatch.may_dispatch call.old.dispatcher) g.D.Resolver.TranslateFileOffset g.D.Resolver.Symbolize call.opts call.asked call.kind call.elf call.elf_now call.old call.now call.before call.after world paths seen call.reading call.input call.result have promised

pub returns-clause-single : goal.returns-clause-single
returns-clause-single g c call world paths promised seen have =
    single_bound g.F.Files (g.D.ProcessDispatch.may_dispatch call.old.dispatcher) g.D.Resolver.TranslateFileOffset g.D.Resolver.Symbolize call.opts call.asked call.kind call.elf call.elf_now call.old call.now call.before call.after world paths seen call.reading call.input call.result have promised
