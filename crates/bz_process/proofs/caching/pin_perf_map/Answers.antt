use Rattle.std.proofs.Common.{◌≡◌, Ok, Err, rules}
use Rattle.bz_base.specs.declared.error.Error.TheVariants as errors
use Rattle.bz_process.proofs.CachingLemmas.{left_absent, left_stays, pins_absent, pins_stays, reads_refused}
use Rattle.bz_process.proofs.caching.pin_perf_map.Goals as goal

-- it is pinned at the version of a look
pub returns-in-Ok-clause-step : goal.returns-in-Ok-clause-step
returns-in-Ok-clause-step g c own kept =
    pins_stays g.F.Files own c.args.path.now (record kept { perf_maps = c.args.cache.now }) c.pin_file.new.cache c.args.files.now c.pin_file.new.files (Ok tt) tt c.in-Ok.ensures

pub returns-in-Ok-clause-left : goal.returns-in-Ok-clause-left
returns-in-Ok-clause-left g c = left_stays g.F.Files c.args.path.now c.args.cache.now c.pin_file.new.cache c.args.files.now c.pin_file.new.files (Ok tt) c.in-Ok.ensures

-- an absent perf map is pinned as it is held
pub returns-in-Err-NotFound-clause-step : goal.returns-in-Err-NotFound-clause-step
returns-in-Err-NotFound-clause-step g c own kept =
    rw c.pin-held.ensures.state (pins_absent g.F.Files own c.args.path.now (record kept { perf_maps = c.args.cache.now }) c.pin_file.new.cache c.args.files.now c.pin_file.new.files
    (rw c.in-Err-NotFound.field-0-is at c.in-Err-NotFound.ensures))

pub returns-in-Err-NotFound-clause-left : goal.returns-in-Err-NotFound-clause-left
returns-in-Err-NotFound-clause-left g c =
    rw c.pin-held.ensures.state (left_absent g.F.Files c.args.path.now c.args.cache.now c.pin_file.new.cache c.args.files.now c.pin_file.new.files
    (rw c.in-Err-NotFound.field-0-is at c.in-Err-NotFound.ensures))

-- any other is refused
pub returns-in-Err-clause-step : goal.returns-in-Err-clause-step
returns-in-Err-clause-step g c own kept =
    let other : c.in-Err.error ≡ errors.NotFound → ⊥ = search rules in
    pins_stays g.F.Files own c.args.path.now (record kept { perf_maps = c.args.cache.now }) c.pin_file.new.cache c.args.files.now c.pin_file.new.files (Err c.in-Err.error) other c.in-Err.ensures

pub returns-in-Err-clause-refusal : goal.returns-in-Err-clause-refusal
returns-in-Err-clause-refusal g c = reads_refused (Err c.in-Err.error) c.in-Err.ensures.refusal
