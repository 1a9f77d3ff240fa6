use Rattle.std.proofs.Common.{[], refl, sym, ◌∙◌}
use Rattle.bz_process.specs.Caching.{caching_of}
use Rattle.bz_process.specs.CachingCall.{MayKeep}
use Rattle.bz_process.proofs.CachingPromise.{may_keep, on_err, on_ok}
use Rattle.bz_process.proofs.caching.cache_process.Goals as goal

-- the mappings are asked for
pub returns-then-request-clause-step : goal.returns-then-request-clause-step
returns-then-request-clause-step g c elf = rw c.if-request.true (c.cache_mapped.ensures.step elf)

pub returns-then-request-clause-mappings : goal.returns-then-request-clause-mappings
returns-then-request-clause-mappings g c world seen = rw c.if-request.true (c.cache_mapped.ensures.mappings world seen)

pub returns-then-request-clause-untold : goal.returns-then-request-clause-untold
returns-then-request-clause-untold g c =
    may_keep (caching_of (g.F.Files.pid c.args.files.now) c.args.request.now) c.cache_mapped.result c.args.mappings.now c.cache_mapped.new.mappings c.if-request.true c.cache_mapped.ensures.untold

pub returns-then-request-clause-pinned : goal.returns-then-request-clause-pinned
returns-then-request-clause-pinned g c elf = c.cache_mapped.ensures.pinned elf

-- they aren't
pub returns-else-request-clause-step : goal.returns-else-request-clause-step
returns-else-request-clause-step g c elf = rw c.if-request.false (c.cache.ensures.step elf)

pub returns-else-request-clause-mappings : goal.returns-else-request-clause-mappings
returns-else-request-clause-mappings g c world seen = on_ok c.cache.result _ (rw c.if-request.false refl)

pub returns-else-request-clause-untold : goal.returns-else-request-clause-untold
returns-else-request-clause-untold g c =
    on_ok c.cache.result (MayKeep (caching_of (g.F.Files.pid c.args.files.now) c.args.request.now) c.args.mappings.now c.args.mappings.now) (record { mappings = []; untold = λ wanted. cc (sym c.if-request.false ∙ wanted); kept = rw c.if-request.false refl })

pub returns-else-request-clause-err : goal.returns-else-request-clause-err
returns-else-request-clause-err g c = on_err c.cache.result _ refl

pub returns-else-request-clause-pinned : goal.returns-else-request-clause-pinned
returns-else-request-clause-pinned g c elf = c.cache.ensures.pinned elf
