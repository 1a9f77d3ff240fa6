use Rattle.bz_breakpad_table.proofs.FinishLemmas.{finished_as}
use Rattle.bz_breakpad_table.proofs.table.finished.Goals as goal

pub returns-clause-ok : goal.returns-clause-ok
returns-clause-ok c bytes reading walked =
    rw c.into_table.ensures (finished_as bytes c.args.walk c.close.new.self reading (c.in_ok-close.ensures bytes reading.closed reading.current) walked)
