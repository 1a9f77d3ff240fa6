use Rattle.std.proofs.Common.{refl}
use Rattle.bz_base.specs.InputKind.{InProcess}
use Rattle.bz_process.proofs.PromiseLemmas.{promised, stays_well}
use Rattle.bz_process.proofs.processes.Processes.symbolize.Goals as goal

-- what is kept stays well kept
pub invariant_of-self : goal.invariant_of-self
invariant_of-self g c =
    rw c.ask_batch.ensures.dispatch
    (stays_well g.F.Files _ g.D.Resolver.TranslateFileOffset g.D.Resolver.Symbolize c.args.opts.now _ InProcess c.args.elf.now c.ask_batch.new.elf _ _ c.args.files.now c.ask_batch.new.files c.in-AbsAddr.addrs.now c.ask_batch.result c.self.invariant c.ask_batch.ensures.asks)

-- the process is asked
pub returns-in-AbsAddr : goal.returns-in-AbsAddr
returns-in-AbsAddr g c =
    rw (← c.self.view_is, c.in-AbsAddr.is)
    (promised g.F.Files _ g.D.Resolver.TranslateFileOffset g.D.Resolver.Symbolize c.args.opts.now _ InProcess c.args.elf.now c.ask_batch.new.elf _ _ c.args.files.now c.ask_batch.new.files c.in-AbsAddr.addrs.now c.ask_batch.result refl c.self.invariant c.ask_batch.ensures.asks c.ask_batch.ensures.mappings c.ask_batch.ensures.dispatch)
