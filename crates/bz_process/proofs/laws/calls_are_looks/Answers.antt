use Rattle.bz_process.proofs.LawLemmas.{address_reached, batch_reached}
use Rattle.bz_process.proofs.laws.calls_are_looks.Goals as goal

pub returns-clause-batch : goal.returns-clause-batch
returns-clause-batch g c call promised =
    batch_reached g.F.Files (g.D.ProcessDispatch.may_dispatch call.old.dispatcher) g.D.Resolver.TranslateFileOffset g.D.Resolver.Symbolize call.opts call.asked call.kind call.result call.elf call.elf_now call.old call.now call.before call.after call.reading call.input promised

pub returns-clause-single : goal.returns-clause-single
returns-clause-single g c call promised =
    address_reached g.F.Files (g.D.ProcessDispatch.may_dispatch call.old.dispatcher) g.D.Resolver.TranslateFileOffset g.D.Resolver.Symbolize call.opts call.asked call.kind call.result call.elf call.elf_now call.old call.now call.before call.after call.reading call.input promised
