use Rattle.std.proofs.Common.{refl}
use Rattle.bz_base.specs.InputKind.{InProcess}
use Rattle.bz_process.proofs.PromiseLemmas.{promised_at, stays_well_at}
use Rattle.bz_process.proofs.processes.Processes.symbolize_single.Goals as goal

-- what is kept stays well kept
pub invariant_of-self : goal.invariant_of-self
invariant_of-self g c =
    rw c.ask_single.ensures.dispatch
    (stays_well_at g.F.Files _ g.D.Resolver.TranslateFileOffset g.D.Resolver.Symbolize c.args.opts.now _ InProcess c.args.elf.now c.ask_single.new.elf _ _ c.args.files.now c.ask_single.new.files c.in-AbsAddr.addr c.ask_single.result c.self.invariant c.ask_single.ensures.asks)

-- the process is asked
pub returns-in-AbsAddr : goal.returns-in-AbsAddr
returns-in-AbsAddr g c =
    rw (← c.self.view_is, c.in-AbsAddr.is)
    (promised_at g.F.Files _ g.D.Resolver.TranslateFileOffset g.D.Resolver.Symbolize c.args.opts.now _ InProcess c.args.elf.now c.ask_single.new.elf _ _ c.args.files.now c.ask_single.new.files c.in-AbsAddr.addr c.ask_single.result refl c.self.invariant c.ask_single.ensures.asks c.ask_single.ensures.mappings c.ask_single.ensures.dispatch)
