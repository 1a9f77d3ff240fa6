use Rattle.bz_canon.specs.GeneratedTable.{generated_table}
use Rattle.bz_symq.specs.Kept.{settings_of}
use Rattle.bz_symbolize.specs.State.{opts_of}
use Rattle.bz_run.proofs.GeneratedBoundLemmas.{generated_fits}
use Rattle.bz_run.proofs.generating.summary.generated_summary.Goals as goal

-- what is counted fits
pub tally_of-requires : goal.tally_of-requires
tally_of-requires c =
    rw c.in_ok-lookups.ensures.answers
    (generated_fits (generated_table c.args.functions) (opts_of (settings_of c.args.config)) c.args.functions c.args.seed c.args.addresses c.requires.functions c.requires.addresses)

-- the text is that of the answers
pub returns-clause-ok : goal.returns-clause-ok
returns-clause-ok c = rw (c.in_ok-tally.ensures.ok, c.in_ok-lookups.ensures.answers) at c.text_of.ensures.ok
