use Rattle.std.proofs.Common.{ap, sym, ◌∙◌, map}
use Rattle.bz_store.specs.Frames.{Known, reading_of}
use Rattle.bz_store.specs.Visits.{by_table}
use Rattle.bz_store.proofs.Seeking.{behind, answered_batch}
use Rattle.bz_store.proofs.known.push_batch_blank.Goals as goal

pub returns-clause-ok : goal.returns-clause-ok
returns-clause-ok g c =
    let read = c.in_ok-batch.ensures.answers in
    behind _ (map reading_of c.args.answers.now.items) _ _ (ap (map Known) read.2 ∙ answered_batch c.args.opts.now read.0 c.args.offsets.now ∙ ap (λ o. map (λ offset. by_table c.args.opts.now offset o) c.args.offsets.now) (sym read.1))
    c.push_owned.result c.push_owned.ensures.ok
