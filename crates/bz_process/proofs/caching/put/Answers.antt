use Rattle.std.proofs.Common.{◌≡◌, rules, sym, ap, ◌∙◌}
use Rattle.std.specs.BTreeMap.{is_at}
use Rattle.bz_cache.specs.InsertMap.{with_absent, with_value}
use Rattle.bz_process.specs.Caching.{KeptMappings}
use Rattle.bz_process.specs.Process.{pid_cmp}
use Rattle.bz_process.proofs.CachingPromise.{on_err}
use Rattle.bz_process.proofs.KeptLemmas.{set_absent, was_absent, was_there, with_first, with_others}
use Rattle.bz_process.proofs.caching.put.Goals as goal

-- others were kept
pub returns-in-Ok-clause-former : goal.returns-in-Ok-clause-former
returns-in-Ok-clause-former c = sym (was_there _ _ _ c.in-Ok.ensures.value)

pub returns-in-Ok-clause-ok : goal.returns-in-Ok-clause-ok
returns-in-Ok-clause-ok c = c.in-Ok.ensures.state ∙ with_others c.args.pid c.args.mappings.now c.args.mapped c.in-Ok.former (was_there _ _ _ c.in-Ok.ensures.value)

-- none were
pub returns-in_ok-get_or_insert-in-Err-clause-ok : goal.returns-in_ok-get_or_insert-in-Err-clause-ok
returns-in_ok-get_or_insert-in-Err-clause-ok c =
    let left : c.get_or_insert.follows.lender-at-none ≡ with_absent pid_cmp c.replace.new.self c.args.pid c.in-Err.mapped = search rules in
    let none = was_absent _ _ _ c.in-Err.ensures.value in
    left ∙ ap (λ (es : KeptMappings). with_absent pid_cmp es c.args.pid c.in-Err.mapped) c.in-Err.ensures.state ∙ ap (with_absent pid_cmp (with_value pid_cmp c.args.mappings.now c.args.pid c.args.mapped) c.args.pid) none.1
    ∙ with_first c.args.pid c.args.mappings.now c.args.mapped none.0

-- memory ran out for the place in the map
pub returns-in_err-get_or_insert-in-Err-clause-err : goal.returns-in_err-get_or_insert-in-Err-clause-err
returns-in_err-get_or_insert-in-Err-clause-err c =
    let left : c.get_or_insert.follows.lender-at-none ≡ c.replace.new.self = search rules in
    let none = was_absent _ _ _ c.in-Err.ensures.value in
    on_err c.from_residual.result _ (left ∙ c.in-Err.ensures.state ∙ set_absent (is_at (pid_cmp c.args.pid)) c.args.mappings.now c.args.mapped none.0)
