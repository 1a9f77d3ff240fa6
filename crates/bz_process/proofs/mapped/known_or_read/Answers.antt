use Rattle.std.proofs.Common.{sym}
use Rattle.bz_process.proofs.MappedLemmas.{from_kept, kept_again, kept_lacks, text_lacks}
use Rattle.bz_process.proofs.mapped.known_or_read.Goals as goal

-- the mappings are kept
pub returns-in-Some-clause-step : goal.returns-in-Some-clause-step
returns-in-Some-clause-step g c own kept =
    kept_again g.F.Files own c.args.pid _ c.in-Some.mapped.now c.share.result kept c.args.files.now (sym c.in-Some.ensures.value) c.share.ensures.mapped c.share.ensures.memory

-- they are read
pub returns-in-None-clause-step : goal.returns-in-None-clause-step
returns-in-None-clause-step g c own kept = rw (sym c.in-None.ensures.value) (c.read_mapped.ensures.step own kept)

-- so they are the kept ones, or those of some text
pub returns-in-Some-clause-untold : goal.returns-in-Some-clause-untold
returns-in-Some-clause-untold g c = from_kept c.args.pid _ c.in-Some.mapped.now c.share.result (sym c.in-Some.ensures.value) c.share.ensures.mapped

pub returns-in-None-clause-untold : goal.returns-in-None-clause-untold
returns-in-None-clause-untold g c = rw (sym c.in-None.ensures.value) c.read_mapped.ensures.untold

pub returns-in-Some-clause-refusal : goal.returns-in-Some-clause-refusal
returns-in-Some-clause-refusal g c = kept_lacks _ c.share.result c.share.ensures.memory

pub returns-in-None-clause-refusal : goal.returns-in-None-clause-refusal
returns-in-None-clause-refusal g c = rw (sym c.in-None.ensures.value) (text_lacks c.read_mapped.result c.read_mapped.ensures.refusal)
