use Rattle.std.proofs.lemmas.Result.{err_from_is_err_and}
use Rattle.bz_process.proofs.MappedLemmas.{mapped_checked, mapped_refused, some_lack, some_used}
use Rattle.bz_process.proofs.mapped.some_mappings.Goals as goal

-- the mappings are refused
pub returns-in_err-mapped-clause-step : goal.returns-in_err-mapped-clause-step
returns-in_err-mapped-clause-step g c own kept =
    let same = err_from_is_err_and c.from_residual.result c.from_residual.ensures.1 in
    rw (same.1, same.2) (mapped_refused g.F.Files own c.args.pid _ c.in_err-mapped.field-0.0 kept c.args.files.now c.known_or_read.new.files (c.in_err-mapped.ensures.step own kept))

-- there are some, or none
pub returns-clause-step : goal.returns-clause-step
returns-clause-step g c own kept =
    mapped_checked g.F.Files own c.args.pid _ c.in_ok-mapped.mapped c.if_some.result kept c.args.files.now c.known_or_read.new.files (c.in_ok-mapped.ensures.step own kept) c.if_some.ensures

pub returns-clause-untold : goal.returns-clause-untold
returns-clause-untold g c = some_used c.args.pid _ c.in_ok-mapped.mapped c.if_some.result c.in_ok-mapped.ensures.untold c.if_some.ensures

pub returns-clause-refusal : goal.returns-clause-refusal
returns-clause-refusal g c = some_lack c.args.pid _ c.in_ok-mapped.mapped c.if_some.result c.in_ok-mapped.ensures.untold c.if_some.ensures
