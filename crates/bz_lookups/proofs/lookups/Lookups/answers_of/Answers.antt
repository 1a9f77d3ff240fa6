use Rattle.std.proofs.Common.{◌≡◌, ap, map, subst, sym, IfOk}
use Rattle.bz_base.specs.Answer.{reading}
use Rattle.bz_lookups.proofs.BatchLemmas.{there_of_some}
use Rattle.bz_lookups.specs.Batch.{Batch, answers_there, version_of}
use Rattle.bz_lookups.proofs.lookups.Lookups.answers_of.Goals as goal

-- the answers are those at the addresses of the indices
pub returns-clause-answers : goal.returns-clause-answers
returns-clause-answers c =
    let inside = c.self.inside in
    subst (λ (b : Batch). IfOk c.answers_by.result (λ answers. map reading answers.items ≡ answers_there c.args.indices.now b)) c.self.view_is
    (there_of_some (version_of inside.held) inside.opts inside.addrs.items c.args.indices.now c.in_ok-some.some.addrs.items c.answers_by.result
    (rw (sym (ap (λ (b : Batch). b.addrs) c.self.view_is)) at c.in_ok-some.ensures.addrs) (rw c.deref.ensures.value at c.answers_by.ensures.answers))
