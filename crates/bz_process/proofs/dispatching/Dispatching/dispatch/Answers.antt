use Rattle.std.proofs.Common.{◌≡◌, rules}
use Rattle.bz_cache.specs.InsertMap.{with_absent}
use Rattle.bz_proc.specs.Maps.{mapping_of}
use Rattle.bz_proc.specs.NameOrder.{name_order}
use Rattle.bz_process.proofs.DispatchLemmas.{asked_now}
use Rattle.bz_process.proofs.dispatching.Dispatching.dispatch.Goals as goal

-- the dispatcher's answer is kept
pub returns-clause-asked : goal.returns-clause-asked
returns-clause-asked g c =
    let left : c.get_or_insert.follows.lender-at-none ≡ with_absent name_order c.args.self.now.answers c.in_ok-key.key c.in_ok-given.given = search rules in
    rw left
    (asked_now (g.D.ProcessDispatch.may_dispatch c.args.self.now.dispatch) (mapping_of c.args.entry.now) c.args.name.now c.args.self.now.answers
    c.in_ok-key.key c.in_ok-given.given c.in_ok-key.ensures.same c.requires c.in_ok-given.ensures.answer)
