use Rattle.std.proofs.Common.{ℕ, ap, ◌∙◌, map}
use Rattle.bz_breakpad.specs.Reader.{table_in}
use Rattle.bz_store.specs.Frames.{FrameReading, reading_of}
use Rattle.bz_store.specs.Visits.{by_table}
use Rattle.bz_store.proofs.Grouping.{at_offsets}
use Rattle.bz_store.proofs.Seeking.{behind}
use Rattle.bz_store.proofs.known.push_known.Goals as goal

pub returns-clause-ok : goal.returns-clause-ok
returns-clause-ok c =
    let answer : ℕ → FrameReading = λ offset. by_table c.args.opts.now offset (table_in c.args.file.now) in
    behind _ (map reading_of c.args.answers.now.items) _ _ (ap (map answer) (c.deref.ensures.value ∙ c.in_ok-offsets.ensures.offsets) ∙ at_offsets answer c.args.frames.now)
    c.push_batch_blank.result c.push_batch_blank.ensures.ok
