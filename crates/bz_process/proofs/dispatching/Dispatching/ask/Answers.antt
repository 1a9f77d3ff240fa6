use Rattle.std.proofs.Common.{sym}
use Rattle.bz_proc.specs.Maps.{mapping_of}
use Rattle.bz_process.proofs.DispatchLemmas.{asked_before}
use Rattle.bz_process.proofs.dispatching.Dispatching.ask.Goals as goal

-- an answer is kept already
pub returns-in-Some-clause-asked : goal.returns-in-Some-clause-asked
returns-in-Some-clause-asked g c =
    rw c.get.follows.holds-at-none
    (asked_before (g.D.ProcessDispatch.may_dispatch c.args.self.now.dispatch) (mapping_of c.args.entry.now) c.args.name.now c.args.self.now.answers c.in-Some.field-0.now (sym c.in-Some.ensures.value))
