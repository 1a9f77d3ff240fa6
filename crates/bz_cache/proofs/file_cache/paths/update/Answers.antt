use Rattle.std.proofs.Common.{◌≡◌, true, is_some, sym, ap, subst, ◌∙◌}
use Rattle.std.specs.Option.{option_copied_mut}
use Rattle.std.proofs.lemmas.Bool.{false≢true}
use Rattle.std.proofs.lemmas.Result.{on_ok_weaker, on_err_weaker}
use Rattle.bz_cache.specs.Cache.{PathState, stamp_eq}
use Rattle.bz_cache.specs.Store.{path_state}
use Rattle.bz_cache.proofs.Stored.{path_found, path_absent, paths_changed, paths_stay}
use Rattle.bz_cache.proofs.file_cache.paths.update.Goals as goal

pub returns-in-Some-clause-ok : goal.returns-in-Some-clause-ok
returns-in-Some-clause-ok c =
    let found = sym c.get_mut.ensures.value ∙ ap option_copied_mut c.in-Some.is in
    let updates = (c.get_mut.follows.holds c.replace.new.held).3 (ap is_some found) in
    rw (path_found c.args.paths.now c.args.path.now _ found) (
    on_ok_weaker c.replace.result (paths_changed c.args.paths.now (c.get_mut.follows.lender c.replace.new.held) c.args.path.now _ _ found updates _) c.replace.ensures.ok
    )

pub returns-in-Some-clause-err : goal.returns-in-Some-clause-err
returns-in-Some-clause-err c =
    let found = sym c.get_mut.ensures.value ∙ ap option_copied_mut c.in-Some.is in
    let updates = (c.get_mut.follows.holds c.replace.new.held).3 (ap is_some found) in
    on_err_weaker c.replace.result (paths_stay c.args.paths.now (c.get_mut.follows.lender c.replace.new.held) c.args.path.now _ _ found updates) c.replace.ensures.err

pub returns-in-Some-clause-sure : goal.returns-in-Some-clause-sure
returns-in-Some-clause-sure c = λ e held same.
    let found = sym c.get_mut.ensures.value ∙ ap option_copied_mut c.in-Some.is in
    let is : e ≡ path_state c.in-Some.held.now = cc (path_found c.args.paths.now c.args.path.now _ found, held) in
    c.replace.ensures.sure (subst (λ (s : PathState). stamp_eq s.current c.args.stamp ≡ true) is same)

pub returns-in-None-clause-ok : goal.returns-in-None-clause-ok
returns-in-None-clause-ok c =
    let absent = sym c.get_mut.ensures.value ∙ ap option_copied_mut c.in-None.is in
    rw (path_absent c.args.paths.now c.args.path.now absent) (rw c.get_mut.follows.holds-at-none at c.insert.ensures.ok)

pub returns-in-None-clause-sure : goal.returns-in-None-clause-sure
returns-in-None-clause-sure c = λ e held same.
    let absent = sym c.get_mut.ensures.value ∙ ap option_copied_mut c.in-None.is in
    absurd (false≢true (ap is_some (sym (path_absent c.args.paths.now c.args.path.now absent) ∙ held)))
